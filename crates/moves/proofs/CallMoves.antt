-- A call that is taken, and what follows READ, as moves.
use mathlib.Core.Path.{◌≡◌, refl, sym, ap, ap₂, ◌∙◌}
use mathlib.Core.Bool.{Bool, true, false}
use mathlib.Core.List.{List, []}
use mathlib.Core.Option.{Option, none, some}
use Prim.Native.Nat.{ℕ, zero, suc, ◌+◌, ◌≤◌, ◌<◌, ◌%◌, ◌^◌}
use native.Mathlib.Nat.{mod-eq_of_lt}
use native.Mathlib.Omega.{arith}
use borrow.Author.Tests.{lt-leb}
use lib.Dec.{leb, eqb}
use Rattle.entries.specs.Entries.{Entry}
use Rattle.entries.specs.Decoded.{value_bytes, table_in}
use Rattle.model.specs.Measures.{majority}
use Rattle.model.specs.Calls as calls
use Rattle.model.specs.Cluster as cluster
use Rattle.model.specs.Replica.{Request, reading, writing}
use Rattle.model.specs.Leader.{straight, begin_call, acknowledgements, closes, below, without, broadcast}
use Rattle.cells.specs.Cells.{Front, Cell}
use Rattle.cells.specs.Cells as cells
use Rattle.cells.specs.Moves.{still, finishing, front_after, cell_after, opening_round, doing, after_reading, checking_round, recovery_of, reading_bucket, starting_call, beginning}
use Rattle.cells.proofs.Laws.{begin_is}
use Rattle.server.specs.declared.Version.{Version}
use Rattle.server.specs.declared.Call.{Call}
use Rattle.server.specs.declared.Effect.{Effect}
use Rattle.server.specs.Views.{flag_in, copy_in, among, round_in, taken_in, call_in, result_in, effect_in}
use Rattle.rounds.specs.Rounds.{no_version, pick_version, pick_table}
use Rattle.open_calls.specs.Calls.{version_of, next_version_of}
use Rattle.moves.specs.declared.Local.{Local}
use Rattle.moves.specs.declared.Move.{Move}
use Rattle.moves.specs.Moves.{with_call, reading_move, stores, writing_move, finished_move, own_write_move, after_read_move}
use Rattle.moves.specs.Moves.{recovery_move, recovered, started_move, recovered_alone, read_alone, ready_alone, alone_move, new_call, begun_move}
use Rattle.moves.specs.Reactions.{front_in, best_in, cell_in, Seen, Tables, EffectNeeded, Asked, work_after, copy_after, sends_in, answers_in, reaction_in}
use Rattle.moves.proofs.Ceasing.{seen_itself}
use Rattle.moves.proofs.Opening.{cell_with, front_opened, recovery_read_cell, check_cell, recovery_write_cell, own_write_cell, move_in}
use Rattle.moves.proofs.Opening.{lifted, either_leads, stored_table, recovery_read_waits, check_waits, own_write_waits, finished}

-- ---- what follows READ

call_open : (c : Call) (words : calls.Words) → among 5 c.kind ≡ true → call_in c words ≡ some (taken_in c words)
unfolding call_in
call_open c words live = rw (call_in, live)

-- an open call has its effect
reads : (n me b : ℕ) (l : Local) (copy : List Entry) (words : calls.Words) (f : Effect) (o : Option cluster.Round)
    → among 5 l.call.kind ≡ true → effect_in f ≡ calls.effect words copy
    → after_reading n me b (front_in n l.head) (cell_with o l copy words) ≡ doing n me b (effect_in f) (front_in n l.head) (cell_with o l copy words)
unfolding after_reading
reads n me b l copy words f o live e =
    let x = front_in n l.head in
    let c = cell_with o l copy words in
    ap (λ k. elim k as (λ y. cells.Move) [ none ↦ still x c | some k ↦ doing n me b (calls.effect k.words copy) x c ]) (call_open l.call words live)
    ∙ ap (λ k. doing n me b k x c) (sym e)

pub writes_so : (f : Effect) → eqb f.result 0 ≡ true → effect_in f ≡ calls.writes (table_in f.table)
unfolding effect_in
writes_so f e = rw (effect_in, e)

answers_so : (f : Effect) → eqb f.result 0 ≡ false → effect_in f ≡ calls.answers (result_in f.result (value_bytes f.value) (table_in f.table))
unfolding effect_in
answers_so f e = rw (effect_in, e)

module _ (n me b : ℕ) (a : Asked) (l : Local) (t : Tables) (words : calls.Words) (f : Effect) (o : Option cluster.Round)
    (lo : 2 ≤ n) (hi : n ≤ 7) (mine : me < n) (live : among 5 l.call.kind ≡ true) (made : t.made ≡ table_in f.table)
    (last : l.head.last + 1 < 2 ^ 32) (rounds : l.call.rounds + 1 < 2 ^ 32) (counter : l.version.counter + 1 < 2 ^ 32) where
  done_by : (z : Bool) → eqb f.result 0 ≡ z
      → doing n me b (effect_in f) (front_in n l.head) (cell_with o l t.copy words)
      ≡ move_in n me b a (after_read_move me f.result l) t words (value_bytes f.value) (table_in f.table)
  unfolding doing after_read_move
  done_by true e =
      rw (writes_so f e, after_read_move, e, ← made)
      (own_write_waits n me b a l t words (value_bytes f.value) t.made o (finishing calls.done) lo hi mine last rounds counter)
  done_by false e =
      rw (answers_so f e, after_read_move, e)
      (finished n me b a f.result l t words (value_bytes f.value) (table_in f.table) o live e)

  pub after_read_means : effect_in f ≡ calls.effect words t.copy
      → after_reading n me b (front_in n l.head) (cell_with o l t.copy words)
      ≡ move_in n me b a (after_read_move me f.result l) t words (value_bytes f.value) (table_in f.table)
  after_read_means e = reads n me b l t.copy words f o live e ∙ done_by (eqb f.result 0) refl

-- ---- the first round among several servers

-- on a recovered copy a new table is written at once, and what is answered is read first
starts : (n me b : ℕ) (l : Local) (copy : List Entry) (words : calls.Words) (f : Effect) (o : Option cluster.Round) → recovered l ≡ true
    → calls.effect_writes (effect_in f) ≡ calls.effect_writes (calls.effect words copy) → (z : Bool) → eqb f.result 0 ≡ z
    → starting_call n me b words (front_in n l.head) (cell_with o l copy words)
    ≡ elim z [ true ↦ doing n me b (effect_in f) (front_in n l.head) (cell_with o l copy words) | false ↦ reading_bucket n me b (front_in n l.head) (cell_with o l copy words) ]
unfolding starting_call straight calls.effect_writes
starts n me b l copy words f o e made true h = rw (starting_call, straight, e, ← made, writes_so f h)
starts n me b l copy words f o e made false h = rw (starting_call, straight, e, ← made, answers_so f h)

-- any other copy is read first
reads_first : (n me b : ℕ) (l : Local) (copy : List Entry) (words : calls.Words) (o : Option cluster.Round) → recovered l ≡ false
    → starting_call n me b words (front_in n l.head) (cell_with o l copy words) ≡ reading_bucket n me b (front_in n l.head) (cell_with o l copy words)
unfolding starting_call straight
reads_first n me b l copy words o e = rw (starting_call, straight, e)

module _ (n me b : ℕ) (a : Asked) (l : Local) (t : Tables) (words : calls.Words) (f : Effect) (o : Option cluster.Round) (lo : 2 ≤ n) (hi : n ≤ 7) (mine : me < n)
    (written : recovered l ≡ true → calls.effect_writes (effect_in f) ≡ calls.effect_writes (calls.effect words t.copy)) (made : t.made ≡ table_in f.table)
    (last : l.head.last + 1 < 2 ^ 32) (rounds : l.call.rounds + 1 < 2 ^ 32) (counter : l.version.counter + 1 < 2 ^ 32) where
  abbrev Starts : cells.Move → Type 0
  Starts x = x ≡ move_in n me b a (started_move me f.result l) t words (value_bytes f.value) (table_in f.table)

  starts_by : recovered l ≡ true → (z : Bool) → eqb f.result 0 ≡ z → Starts (starting_call n me b words (front_in n l.head) (cell_with o l t.copy words))
  unfolding started_move doing reading_bucket checking_round
  starts_by e true h =
      starts n me b l t.copy words f o e (written e) true h
      ∙ rw (writes_so f h, started_move, e, h, ← made)
      (own_write_waits n me b a l t words (value_bytes f.value) t.made o (finishing calls.done) lo hi mine last rounds counter)
  starts_by e false h =
      starts n me b l t.copy words f o e (written e) false h
      ∙ rw (reading_bucket, started_move, e, h)
      (check_waits n me b a l t words (value_bytes f.value) (table_in f.table) o (after_reading n me b) lo hi mine last rounds)

  started_means : Starts (starting_call n me b words (front_in n l.head) (cell_with o l t.copy words))
  unfolding started_move reading_bucket
  started_means = go (recovered l) refl
    where
      go : (z : Bool) → recovered l ≡ z → Starts (starting_call n me b words (front_in n l.head) (cell_with o l t.copy words))
      go true e = starts_by e (eqb f.result 0) refl
      go false e =
          reads_first n me b l t.copy words o e
          ∙ rw (started_move, reading_bucket, e)
          (recovery_read_waits n me b a l t words (value_bytes f.value) (table_in f.table) o (recovery_of n me b t.copy) lo hi mine last rounds)

-- ---- READ of a server alone: its own reply closes each round at once

at_once : (b : ℕ) (u : cluster.Purpose) (q : Request) (next : Front → Cell → cells.Move) (f : Front) (c : Cell)
    → opening_round 1 0 b u q next f c ≡ next (front_after 0 f) (cell_after 1 0 u q f c)
unfolding opening_round closes acknowledgements majority broadcast without below
at_once b u q next f c = refl

-- room for k more rounds
record Room (k : ℕ) (l : Local) : Type 0 where
  last : l.head.last + k < 2 ^ 32
  rounds : l.call.rounds + k < 2 ^ 32

less : (j k : ℕ) (l : Local) → j ≤ k → Room k l → Room j l
less j k l h r = record { last = omega (arith, r.last); rounds = omega (arith, r.rounds) }

-- a round takes one
room_next : (k : ℕ) (l m : Local) → Room (k + 1) l → m.head.last ≡ (l.head.last + 1) % 2 ^ 32 → m.call.rounds ≡ (l.call.rounds + 1) % 2 ^ 32 → Room k m
room_next k l m r e h =
    let i : l.head.last + 1 < 2 ^ 32 = omega (arith, r.last) in
    let j : l.call.rounds + 1 < 2 ^ 32 = omega (arith, r.rounds) in
    record { last = rw (e, mod-eq_of_lt i) (omega (arith, r.last)); rounds = rw (h, mod-eq_of_lt j) (omega (arith, r.rounds)) }

room_read : (me p k : ℕ) (l : Local) → Room (k + 1) l → Room k (reading_move me p l).local
unfolding reading_move
room_read me p k l r = room_next k l (reading_move me p l).local r refl refl

room_write : (me p k : ℕ) (v : Version) (l : Local) → Room (k + 1) l → Room k (writing_move me p v l).local
unfolding writing_move
room_write me p k v l r = room_next k l (writing_move me p v l).local r refl refl

-- a table picked of one is that one
same_pick : (z : Bool) (t : List Entry) → pick_table z t t ≡ t
unfolding pick_table
same_pick true t = refl
same_pick false t = refl

module _ (b : ℕ) (copy : List Entry) (words : calls.Words) where
  -- a cell at a local, its working table that of the copy
  abbrev at : (Front → Cell → cells.Move) → Local → cells.Move
  at next l = next (front_in 1 l.head) (cell_in 1 l copy copy words)

  check_alone : (l : Local) (o : Option cluster.Round) → Room 1 l
      → checking_round 1 0 b (front_in 1 l.head) (cell_with o l copy words) ≡ at (after_reading 1 0 b) (reading_move 0 3 l).local
  unfolding checking_round reading_move
  check_alone l o r =
      at_once b cluster.check reading (after_reading 1 0 b) (front_in 1 l.head) (cell_with o l copy words)
      ∙ ap₂ (after_reading 1 0 b) (front_opened 1 0 l (omega arith) r.last) (check_cell 1 0 l (omega arith) r.last o copy copy words r.rounds)

  -- the recovery writes the server's own table, which stays
  write_alone : (l : Local) (o : Option cluster.Round) → Room 1 l
      → recovery_of 1 0 b copy (front_in 1 l.head) (cell_with o l copy words) ≡ at (checking_round 1 0 b) (recovery_move 0 l).local
  unfolding recovery_of writing_move
  write_alone l o r =
      let v = version_of l.head.number 1 in
      at_once b cluster.recovery_write (writing (copy_in v copy)) (checking_round 1 0 b) (front_in 1 l.head) (cell_with o l copy words)
      ∙ ap₂ (checking_round 1 0 b) (front_opened 1 0 l (omega arith) r.last)
      (recovery_write_cell 1 0 l (omega arith) r.last o v copy copy copy words r.rounds
      ∙ ap (λ c. cell_in 1 (recovery_move 0 l).local c copy words) (same_pick (stores v l) copy))

  first_alone : (l : Local) (o : Option cluster.Round) → Room 1 l
      → opening_round 1 0 b cluster.recovery_read reading (recovery_of 1 0 b copy) (front_in 1 l.head) (cell_with o l copy words)
      ≡ at (recovery_of 1 0 b copy) (reading_move 0 1 l).local
  unfolding reading_move
  first_alone l o r =
      at_once b cluster.recovery_read reading (recovery_of 1 0 b copy) (front_in 1 l.head) (cell_with o l copy words)
      ∙ ap₂ (recovery_of 1 0 b copy) (front_opened 1 0 l (omega arith) r.last) (recovery_read_cell 1 0 l (omega arith) r.last o copy words r.rounds)

  read_alone_lem : (l : Local) (o : Option cluster.Round) → Room 3 l
      → reading_bucket 1 0 b (front_in 1 l.head) (cell_with o l copy words) ≡ at (after_reading 1 0 b) (read_alone 0 l)
  unfolding reading_bucket recovered_alone reading_move
  read_alone_lem l o r = go (recovered l) refl
    where
      l₁ : Local
      l₁ = (reading_move 0 1 l).local

      l₂ : Local
      l₂ = (recovery_move 0 l₁).local

      go : (z : Bool) → recovered l ≡ z → reading_bucket 1 0 b (front_in 1 l.head) (cell_with o l copy words) ≡ at (after_reading 1 0 b) (read_alone 0 l)
      go true e = rw (reading_bucket, recovered_alone, e) (check_alone l o (less 1 3 l (omega arith) r))
      go false e =
          let r₁ = room_read 0 1 2 l r in
          let r₂ = room_write 0 2 1 (version_of l₁.head.number 1) l₁ r₁ in
          rw (reading_bucket, recovered_alone, e)
          (first_alone l o (less 1 3 l (omega arith) r)
          ∙ (write_alone l₁ (round_in 1 l₁.round (best_in l₁.round copy)) (less 1 2 l₁ (omega arith) r₁)
          ∙ check_alone l₂ (round_in 1 l₂.round (best_in l₂.round copy)) r₂))

-- what READ leaves of a call, of the counters, and of the room
live_alone : (l : Local) → among 5 l.call.kind ≡ true → among 5 (read_alone 0 l).call.kind ≡ true
unfolding recovered_alone reading_move writing_move
live_alone l live =
    elim (recovered l) as (λ z. among 5 (reading_move 0 3 (elim z [ true ↦ l | false ↦ (recovery_move 0 (reading_move 0 1 l).local).local ])).local.call.kind ≡ true)
    [ true ↦ live | false ↦ live ]

low_picked : (z : Bool) (v w : Version) → v.counter + 1 < 2 ^ 32 → w.counter + 1 < 2 ^ 32 → (pick_version z v w).counter + 1 < 2 ^ 32
unfolding pick_version
low_picked true v w e h = e
low_picked false v w e h = h

counter_alone : (l : Local) → l.version.counter + 1 < 2 ^ 32 → (read_alone 0 l).version.counter + 1 < 2 ^ 32
unfolding recovered_alone reading_move writing_move
counter_alone l low =
    let v = version_of l.head.number 1 in
    elim (recovered l) as
    (λ z. (reading_move 0 3 (elim z [ true ↦ l | false ↦ (recovery_move 0 (reading_move 0 1 l).local).local ])).local.version.counter + 1 < 2 ^ 32)
    [ true ↦ low | false ↦ low_picked (stores v l) v l.version (omega arith) low ]

room_alone : (l : Local) → Room 4 l → Room 1 (read_alone 0 l)
unfolding recovered_alone
room_alone l r =
    let l₁ = (reading_move 0 1 l).local in
    elim (recovered l) as (λ z. Room 1 (reading_move 0 3 (elim z [ true ↦ l | false ↦ (recovery_move 0 l₁).local ])).local) [
      | true ↦ room_read 0 3 1 l (less 2 4 l (omega arith) r)
      | false ↦
          room_read 0 3 1 (recovery_move 0 l₁).local (room_write 0 2 2 (version_of l₁.head.number 1) l₁ (room_read 0 1 3 l r))
    ]

-- ---- the whole call of a server alone

-- its own write
abbrev own_alone : ℕ → Local → Move
own_alone me r =
    let w = own_write_move me r in
    record {
      local = (finished_move 3 w.local).local;
      sends = 0;
      written = no_version;
      fills = w.fills;
      keeps = w.keeps;
      answer = (finished_move 3 w.local).answer;
      ceases = false;
      forgets = false;
    }

-- the end of a call with `done`, and this table left in the copy
abbrev done_with : ℕ → Local → List Entry → calls.Words → List ℕ → List Entry → cells.Move
done_with n l copy words v u =
    record {
      front = front_in n l.head;
      cell = cell_in n (finished_move 3 l).local copy [] words;
      sends = [];
      answers = answers_in (finished_move 3 l).answer v u;
    }

own_write_alone : (b : ℕ) (a : Asked) (r : Local) (t : Tables) (words : calls.Words) (v : List ℕ) (u : List Entry) (o : Option cluster.Round)
    → Room 1 r → r.version.counter + 1 < 2 ^ 32 → among 5 r.call.kind ≡ true
    → opening_round 1 0 b cluster.own_write (writing (cluster.copy_of (cluster.version r.head.number (r.version.counter + 1)) t.made)) (finishing calls.done) (front_in 1 r.head) (cell_with o r t.copy words)
    ≡ move_in 1 0 b a (own_alone 0 r) t words v u
unfolding writing_move finished_move copy_after work_after sends_in round_in among result_in
own_write_alone b a r t words v u o room counter live =
    let w = next_version_of r.head.number r.version in
    let x = front_in 1 r.head in
    let c = cell_with o r t.copy words in
    let l = (own_write_move 0 r).local in
    let z : Tables = record { copy = pick_table (stores w r) t.made t.copy; work = t.made; made = t.made; message = t.message } in
    ap (λ k. opening_round 1 0 b cluster.own_write (writing (cluster.copy_of (cluster.version r.head.number k) t.made)) (finishing calls.done) x c) (sym (mod-eq_of_lt counter))
    ∙ (at_once b cluster.own_write (writing (copy_in w t.made)) (finishing calls.done) x c
    ∙ (ap₂ (finishing calls.done) (front_opened 1 0 r (omega arith) room.last)
    (own_write_cell 1 0 r (omega arith) room.last o w t.made t.copy t.made words room.rounds)
    ∙ (finished 1 0 b a 3 l z words v u (round_in 1 l.round (best_in l.round t.made)) live refl
    ∙ ap (λ y. done_with 1 l y words v u) (sym (stored_table (stores w r) t t.made)))))

module _ (b : ℕ) (a : Asked) (l : Local) (t : Tables) (words : calls.Words) (f : Effect) (o : Option cluster.Round)
    (room : Room 4 l) (counter : l.version.counter + 1 < 2 ^ 32) (live : among 5 l.call.kind ≡ true) (effect : effect_in f ≡ calls.effect words t.copy) (made : t.made ≡ table_in f.table) where
  abbrev Alone : cells.Move → Type 0
  Alone x = x ≡ move_in 1 0 b a (alone_move 0 f.result l) t words (value_bytes f.value) (table_in f.table)

  abbrev r : Local
  r = read_alone 0 l

  abbrev p : Option cluster.Round
  p = round_in 1 r.round (best_in r.round t.copy)

  -- READ, and then the effect
  read_then : reading_bucket 1 0 b (front_in 1 l.head) (cell_with o l t.copy words) ≡ doing 1 0 b (effect_in f) (front_in 1 r.head) (cell_with p r t.copy words)
  read_then = read_alone_lem b t.copy words l o (less 3 4 l (omega arith) room) ∙ reads 1 0 b r t.copy words f p (live_alone l live) effect

  read_answers : eqb f.result 0 ≡ false → Alone (doing 1 0 b (effect_in f) (front_in 1 r.head) (cell_with p r t.copy words))
  unfolding alone_move doing
  read_answers h =
      rw (answers_so f h, alone_move, h) (finished 1 0 b a f.result r t words (value_bytes f.value) (table_in f.table) p (live_alone l live) h)

  -- the copy is recovered: a write goes out at once
  starts_alone : recovered l ≡ true → (z : Bool) → eqb f.result 0 ≡ z → Alone (starting_call 1 0 b words (front_in 1 l.head) (cell_with o l t.copy words))
  unfolding alone_move ready_alone doing
  starts_alone e true h =
      starts 1 0 b l t.copy words f o e (ap calls.effect_writes effect) true h
      ∙ rw (writes_so f h, alone_move, h, ready_alone, e, ← made)
      (own_write_alone b a l t words (value_bytes f.value) t.made o (less 1 4 l (omega arith) room) counter live)
  starts_alone e false h = starts 1 0 b l t.copy words f o e (ap calls.effect_writes effect) false h ∙ (read_then ∙ read_answers h)

  reads_alone : recovered l ≡ false → (z : Bool) → eqb f.result 0 ≡ z → Alone (doing 1 0 b (effect_in f) (front_in 1 r.head) (cell_with p r t.copy words))
  unfolding alone_move ready_alone doing
  reads_alone e true h =
      rw (writes_so f h, alone_move, h, ready_alone, e, ← made)
      (own_write_alone b a r t words (value_bytes f.value) t.made p (room_alone l room) (counter_alone l counter) (live_alone l live))
  reads_alone e false h = read_answers h

  alone_means : Alone (starting_call 1 0 b words (front_in 1 l.head) (cell_with o l t.copy words))
  alone_means = go (recovered l) refl
    where
      go : (z : Bool) → recovered l ≡ z → Alone (starting_call 1 0 b words (front_in 1 l.head) (cell_with o l t.copy words))
      go true e = starts_alone e (eqb f.result 0) refl
      go false e = reads_first 1 0 b l t.copy words o e ∙ (read_then ∙ reads_alone e (eqb f.result 0) refl)

-- ---- a call that is taken

begun_by_lem : (n me b i kind : ℕ) (a : Asked) (l : Local) (t : Tables) (words : calls.Words) (f : Effect) (o : Option cluster.Round) → 1 ≤ n → n ≤ 7 → me < n
    → among 5 kind ≡ true → EffectNeeded n l words t.copy f → t.made ≡ table_in f.table → l.head.last + 4 < 2 ^ 32 → l.version.counter + 1 < 2 ^ 32
    → starting_call n me b words (front_in n l.head) (cell_with o (with_call (new_call kind i) l) t.copy words)
    ≡ move_in n me b a (begun_move n me i kind f.result l) t words (value_bytes f.value) (table_in f.table)
unfolding begun_move
begun_by_lem zero me b i kind a l t words f o lo hi mine live e made last counter = absurd (omega arith)
begun_by_lem (suc zero) zero b i kind a l t words f o lo hi mine live e made last counter =
    alone_means b a (with_call (new_call kind i) l) t words f o (record { last = last; rounds = omega arith }) counter live (e.alone (omega arith)) made
begun_by_lem (suc zero) (suc me) b i kind a l t words f o lo hi mine live e made last counter = absurd (omega arith)
begun_by_lem (suc (suc n)) me b i kind a l t words f o lo hi mine live e made last counter =
    rw (begun_move, lt-leb (suc (suc n)) 1 (omega arith))
    (started_means (suc (suc n)) me b a (with_call (new_call kind i) l) t words f o (omega arith) hi mine e.written made (omega arith) (omega arith) counter)

-- a call that is taken ends no leadership
begun_leads : (n me i kind result : ℕ) (l : Local) → (begun_move n me i kind result l).ceases ≡ false
unfolding begun_move alone_move started_move reading_move writing_move finished_move
begun_leads n me i kind result l =
    let k = with_call (new_call kind i) l in
    either_leads (leb n 1) (alone_move me result k) (started_move me result k)
    (either_leads (eqb result 0) (own_alone me (ready_alone me k)) (finished_move result (read_alone me k)) refl refl)
    (either_leads (recovered k) (elim (eqb result 0) as (λ _. Move) [ true ↦ own_write_move me k | false ↦ reading_move me 3 k ]) (reading_move me 1 k)
    (either_leads (eqb result 0) (own_write_move me k) (reading_move me 3 k) refl refl) refl)

pub begun_means : (n me b i kind : ℕ) (s : cluster.Server) (l : Local) (t : Tables) (old words : calls.Words) (f : Effect) (a : Asked)
    → 1 ≤ n → n ≤ 7 → me < n → Seen n b s l t.copy t.work old → among 5 kind ≡ true
    → EffectNeeded n l words t.copy f → t.made ≡ table_in f.table → l.head.last + 4 < 2 ^ 32 → l.version.counter + 1 < 2 ^ 32
    → begin_call n me b i words s ≡ reaction_in n me b a (begun_move n me i kind f.result l) t words (value_bytes f.value) (table_in f.table) s
unfolding beginning flag_in
begun_means n me b i kind s l t old words f a lo hi mine seen live e made last counter =
    let x = front_in n l.head in
    let c = cell_in n l t.copy t.work old in
    let m = begun_move n me i kind f.result l in
    ap (begin_call n me b i words) (seen_itself n b s l t old seen)
    ∙ (begin_is s b seen.inside n me i words x c
    ∙ (ap (λ k. cells.lift s b (starting_call n me b words x (record { copy = c.copy; round = c.round; call = k }))) (sym (call_open (new_call kind i) words live))
    ∙ (ap (cells.lift s b) (begun_by_lem n me b i kind a l t words f c.round lo hi mine live e made last counter)
    ∙ lifted n me b a m t words (value_bytes f.value) (table_in f.table) s (begun_leads n me i kind f.result l))))
