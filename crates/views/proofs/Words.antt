-- The words of a call stored at a slot: they are read back, and as long as the slot's call is not open the servers stay.
use mathlib.Core.Path.{◌≡◌, ap, ◌∙◌}
use mathlib.Core.Bool.{false}
use Prim.Native.Nat.{ℕ, ◌<◌}
use native.Mathlib.Decide.{ℕ_discrete}
use native.Mathlib.Omega.{arith}
use Rattle.model.specs.Calls as calls
use Rattle.server.specs.declared.Call.{Call}
use Rattle.server.specs.declared.Words.{Words}
use Rattle.server.specs.Views.{among, call_in, words_in}
use Rattle.memory.specs.Layout.{slot_room, slot_of, head_at, call_at, put_words, put_texts, Whole}
use Rattle.memory.proofs.Texts.{length-put_texts, words_put_words, words_elsewhere, length-put_words, version_put_words, round_put_words, call_put_words}
use Rattle.moves.specs.Reactions.{front_in}
use Rattle.views.specs.Memory.{Memory, memory, Sized, local_at, call_words_at, cell_at, server_of, server_at, servers_at}
use Rattle.views.proofs.Each.{each_same}

-- the memory with the words of slot k replaced
abbrev pub worded : Memory → ℕ → Words → Memory
worded m k w = memory m.counts m.heads (put_words m.slots k w) m.copies m.working (put_texts m.texts k w) m.queue m.payloads

closed_call : (c : Call) (w u : calls.Words) → among 5 c.kind ≡ false → call_in c w ≡ call_in c u
unfolding call_in
closed_call c w u e = rw (call_in, e)

pub worded_local : (m : Memory) (k : ℕ) (w : Words) (s j : ℕ) → local_at (worded m k w) s j ≡ local_at m s j
worded_local m k w s j = rw (version_put_words, round_put_words, call_put_words)

module _ (m : Memory) (k : ℕ) (w : Words) (sized : Sized m) (slot : k < slot_room) (whole : Whole w) where
  pub worded_words : call_words_at (worded m k w) k ≡ words_in w
  worded_words =
      let h = sized.slots in
      let g = sized.texts in
      words_put_words m.slots m.texts k w whole (omega arith) (omega arith)

  pub worded_sized : Sized (worded m k w)
  worded_sized =
      let g = sized.texts in
      record {
        counts = sized.counts;
        heads = sized.heads;
        slots = length-put_words m.slots k w ∙ sized.slots;
        copies = sized.copies;
        working = sized.working;
        texts = length-put_texts m.texts k w (omega arith) whole ∙ sized.texts;
        queue = sized.queue;
        payloads = sized.payloads;
      }

  module _ (closed : among 5 (call_at m.slots k).kind ≡ false) (n : ℕ) where
    worded_call : (j : ℕ) → Dec (j ≡ k) → call_in (call_at m.slots j) (call_words_at (worded m k w) j) ≡ call_in (call_at m.slots j) (call_words_at m j)
    worded_call j (yes e) = rw e (closed_call (call_at m.slots k) (call_words_at (worded m k w) k) (call_words_at m k) closed)
    worded_call j (no d) = let g = sized.texts in rw (words_elsewhere m.slots m.texts k w whole j (omega arith) d)

    worded_cell : (s j : ℕ) → cell_at n (worded m k w) s j ≡ cell_at n m s j
    unfolding cell_at
    worded_cell s j = rw (version_put_words, round_put_words, call_put_words m.slots k w j, worded_call j (ℕ_discrete j k))

    pub worded_servers : (most : ℕ) → servers_at n most (worded m k w) ≡ servers_at n most m
    unfolding servers_at server_at
    worded_servers most =
        each_same n (λ s. server_at n most (worded m k w) s) (λ s. server_at n most m s)
        (λ s h. ap (server_of (front_in n (head_at m.heads s))) (each_same most (λ b. cell_at n (worded m k w) s (slot_of s b)) (λ b. cell_at n m s (slot_of s b)) (λ b g. worded_cell s (slot_of s b))))
