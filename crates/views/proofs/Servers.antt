-- The servers after a step: its server is the one of the definitions, the others stay.
use mathlib.Core.Path.{◌≡◌, refl, sym, ap, ap₂, ◌∙◌}
use mathlib.Core.Logic.{◌≢◌}
use mathlib.Core.Bool.{Bool, true, false}
use mathlib.Core.List.{List, map, map-map}
use mathlib.Core.Option.{none}
use Prim.Native.Nat.{ℕ, ◌≤◌, ◌<◌}
use native.Mathlib.Omega.{arith}
use lib.ListN.{length, set}
use Rattle.entries.specs.Entries.{Entry}
use Rattle.entries.proofs.Shifts.{map-set_lem}
use Rattle.table.specs.Form.{fits}
use Rattle.model.specs.Measures.{max_entries, max_value_bytes}
use Rattle.cells.specs.Cells.{Front, Cell, put_cell}
use Rattle.memory.specs.Layout.{slot_room, message_room, slot_of, head_at, put_head}
use Rattle.memory.proofs.Records.{length-put_head, head_put_head, head_elsewhere}
use Rattle.moves.specs.declared.Move.{Move}
use Rattle.moves.specs.declared.Filling.TheVariants as filling
use Rattle.moves.specs.Reactions.{cell_in, front_in, work_after, copy_after, idled, moved_server, server_after}
use Rattle.views.specs.Memory.{Memory, memory, Sized, each, WholeLocal, call_words_at, cell_at, server_of, server_at, servers_at}
use Rattle.views.specs.Changes.{filled, kept, put_local, cleared_slots, slots_after, moved}
use Rattle.views.proofs.Each.{each_same, each_set, map_each}
use Rattle.views.proofs.Contents.{tables_at, working_after, copies_after}
use Rattle.views.proofs.Slots.{
  length-put_local,
  version_put_local,
  round_put_local,
  call_put_local,
  words_put_local,
  others_put_local,
  length-cleared_slots,
  version_cleared_slots,
  words_cleared_slots,
  others_cleared_slots,
  idle_cleared_slots,
}

-- ---- servers as fronts and cells

put_server : (f g : Front) (cs : List Cell) (b : ℕ) (c : Cell) → put_cell (server_of f cs) b g c ≡ server_of g (set cs b c)
put_server f g cs b c = rw (map-set_lem (λ (x : Cell). x.copy) cs b c, map-set_lem (λ (x : Cell). x.round) cs b c, map-set_lem (λ (x : Cell). x.call) cs b c)

abbrev idle_cell : Cell → Cell
idle_cell c = record { copy = c.copy; round = none; call = none }

idle_server : (f : Front) (cs : List Cell) → idled (server_of f cs) ≡ server_of f (map idle_cell cs)
idle_server f cs = simp map-map

-- ---- the rounds and calls of a server ended

module _ (m : Memory) (room : length m.slots ≡ 1792) (n most s : ℕ) (server : s < 7) (buckets : most ≤ 8) where
  abbrev ended : Memory
  ended = memory m.counts m.heads (cleared_slots m.slots s most) m.copies m.working m.texts m.queue m.payloads

  ended_cell : (b : ℕ) → b < most → cell_at n ended s (slot_of s b) ≡ idle_cell (cell_at n m s (slot_of s b))
  unfolding cell_at
  ended_cell b h =
      let idle = idle_cleared_slots m.slots s room server most buckets b h in
      rw (version_cleared_slots m.slots s most (slot_of s b), idle.round n _, idle.call _)

  unended_cell : (r j : ℕ) → ((b : ℕ) → b < most → j ≢ slot_of s b) → cell_at n ended r j ≡ cell_at n m r j
  unfolding cell_at
  unended_cell r j apart =
      let o = others_cleared_slots m.slots s most j apart in
      rw (o.version, o.round, o.call, words_cleared_slots m.slots s most m.texts j)

  ended_server : server_at n most ended s ≡ idled (server_at n most m s)
  unfolding server_at
  ended_server =
      ap (server_of (front_in n (head_at m.heads s)))
      (each_same most (λ b. cell_at n ended s (slot_of s b)) (λ b. idle_cell (cell_at n m s (slot_of s b))) ended_cell
      ∙ sym (map_each most (λ b. cell_at n m s (slot_of s b)) idle_cell))
      ∙ sym (idle_server (front_in n (head_at m.heads s)) (each most (λ b. cell_at n m s (slot_of s b))))

  unended_server : (r : ℕ) → r ≢ s → server_at n most ended r ≡ server_at n most m r
  unfolding server_at
  unended_server r d =
      ap (server_of (front_in n (head_at m.heads r)))
      (each_same most (λ b. cell_at n ended r (slot_of r b)) (λ b. cell_at n m r (slot_of r b))
      (λ b h. unended_cell r (slot_of r b) (λ c g e. d (omega arith))))

-- ---- before rounds and calls are ended

module _ (m : Memory) (n most s b i : ℕ) (v : Move) (made : List Entry) (sized : Sized m) (servers : n ≤ 7) (server : s < n) (buckets : most ≤ 8) (bucket : b < most)
    (message : i < message_room) (whole : WholeLocal v.local) (form : v.fills ≡ filling.Table → fits max_entries max_value_bytes made ≡ true) where
  abbrev k : ℕ
  k = slot_of s b

  abbrev working : List ℕ
  working = filled m k i made v.fills

  abbrev copies : List ℕ
  copies = kept m working k i v.keeps

  -- the memory with the local and the contents stored
  abbrev put : Memory
  put = memory m.counts (put_head m.heads s v.local.head) (put_local m.slots k v.local) copies working m.texts m.queue m.payloads

  abbrev new_cell : Cell
  new_cell = cell_in n v.local (copy_after v (tables_at m k i made)) (work_after v (tables_at m k i made)) (call_words_at m k)

  new_cell_lem : cell_at n put s k ≡ new_cell
  unfolding cell_at
  new_cell_lem =
      rw (
        version_put_local m.slots k v.local sized.slots (omega arith),
        round_put_local m.slots k v.local sized.slots (omega arith) whole.marks,
        call_put_local m.slots k v.local sized.slots (omega arith),
        words_put_local m.slots k v.local m.texts k,
        (copies_after m sized k i (omega arith) message v made form).there,
        (working_after m sized k i (omega arith) message v made form).there,
      )

  other_cell : (r j : ℕ) → j < slot_room → j ≢ k → cell_at n put r j ≡ cell_at n m r j
  unfolding cell_at
  other_cell r j h d =
      let o = others_put_local m.slots k v.local j d in
      rw (
        o.version,
        o.round,
        o.call,
        words_put_local m.slots k v.local m.texts j,
        (copies_after m sized k i (omega arith) message v made form).others j h d,
        (working_after m sized k i (omega arith) message v made form).others j h d,
      )

  put_there : server_at n most put s ≡ moved_server n b v (tables_at m k i made) (call_words_at m k) (server_at n most m s)
  unfolding server_at
  put_there =
      let h = sized.heads in
      ap₂ (λ f cs. server_of f cs) (ap (front_in n) (head_put_head m.heads s v.local.head (omega arith) whole.votes))
      (each_set most (λ c. cell_at n m s (slot_of s c)) (λ c. cell_at n put s (slot_of s c)) b new_cell bucket new_cell_lem
      (λ c g d. other_cell s (slot_of s c) (omega arith) (λ e. d (omega arith))))
      ∙ sym (put_server (front_in n (head_at m.heads s)) (front_in n v.local.head) (each most (λ c. cell_at n m s (slot_of s c))) b new_cell)

  put_elsewhere : (r : ℕ) → r < n → r ≢ s → server_at n most put r ≡ server_at n most m r
  unfolding server_at
  put_elsewhere r h d =
      ap₂ (λ f cs. server_of f cs) (ap (front_in n) (head_elsewhere m.heads s v.local.head r d))
      (each_same most (λ c. cell_at n put r (slot_of r c)) (λ c. cell_at n m r (slot_of r c))
      (λ c g. other_cell r (slot_of r c) (omega arith) (λ e. d (omega arith))))

  -- ---- the step

  length_put : length put.slots ≡ 1792
  length_put = length-put_local m.slots k v.local ∙ sized.slots

  moved_there : server_at n most (moved m most s b i v made) s ≡ server_after n b v (tables_at m k i made) (call_words_at m k) (server_at n most m s)
  unfolding moved slots_after server_after
  moved_there = go v.ceases refl
    where
      go : (x : Bool) → v.ceases ≡ x → server_at n most (moved m most s b i v made) s ≡ server_after n b v (tables_at m k i made) (call_words_at m k) (server_at n most m s)
      go true e = rw (slots_after, server_after, e) (ended_server put length_put n most s (omega arith) buckets ∙ ap idled put_there)
      go false e = rw (slots_after, server_after, e) put_there

  moved_elsewhere : (r : ℕ) → r < n → r ≢ s → server_at n most (moved m most s b i v made) r ≡ server_at n most m r
  unfolding moved slots_after
  moved_elsewhere r h d = go v.ceases refl
    where
      go : (x : Bool) → v.ceases ≡ x → server_at n most (moved m most s b i v made) r ≡ server_at n most m r
      go true e = rw (slots_after, e) (unended_server put length_put n most s (omega arith) buckets r d ∙ put_elsewhere r h d)
      go false e = rw (slots_after, e) (put_elsewhere r h d)

  pub moved_servers : servers_at n most (moved m most s b i v made) ≡ set (servers_at n most m) s (server_after n b v (tables_at m k i made) (call_words_at m k) (server_at n most m s))
  unfolding servers_at
  moved_servers = each_set n (λ r. server_at n most m r) (λ r. server_at n most (moved m most s b i v made) r) s _ server moved_there moved_elsewhere

  length-slots_after : length (slots_after m.slots most s k v) ≡ 1792
  unfolding slots_after
  length-slots_after = go v.ceases refl
    where
      go : (x : Bool) → v.ceases ≡ x → length (slots_after m.slots most s k v) ≡ 1792
      go true e = rw (slots_after, e) (length-cleared_slots put.slots s most ∙ length_put)
      go false e = rw (slots_after, e) length_put

  pub moved_sized : Sized (moved m most s b i v made)
  unfolding moved
  moved_sized =
      record {
        counts = sized.counts;
        heads = length-put_head m.heads s v.local.head ∙ sized.heads;
        slots = length-slots_after;
        copies = (copies_after m sized k i (omega arith) message v made form).size ∙ sized.copies;
        working = (working_after m sized k i (omega arith) message v made form).size ∙ sized.working;
        texts = sized.texts;
        queue = sized.queue;
        payloads = sized.payloads;
      }
