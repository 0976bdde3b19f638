-- The answers that a step writes stand for those of the definitions.
use mathlib.Core.Path.{◌≡◌, refl, sym, ap, ◌∙◌}
use mathlib.Core.Logic.{◌≢◌}
use mathlib.Core.Bool.{Bool, true, false}
use mathlib.Core.List.{List, [], ◌∷◌, ◌++◌, append-nil}
use mathlib.Core.Option.{Option, none, some}
use Prim.Native.Nat.{ℕ, zero, suc, ◌+◌, ◌*◌, ◌≤◌}
use native.Mathlib.Numerals.{add-one}
use native.Mathlib.Omega.{arith}
use lib.Dec.{eqb}
use lib.ListN.{length}
use Rattle.entries.specs.Entries.{Entry}
use Rattle.model.specs.Measures.{max_buckets, most_answers}
use Rattle.model.specs.Calls as calls
use Rattle.model.specs.Cluster as cluster
use Rattle.model.specs.Leader.{ended, endings}
use Rattle.cells.specs.Cells.{Cell}
use Rattle.server.specs.declared.Answer.{Answer}
use Rattle.server.specs.Views.{among, call_in, answer_in}
use Rattle.open_calls.specs.Calls.{ended_of}
use Rattle.open_calls.proofs.CallLaws.{ended_means}
use Rattle.memory.specs.Layout.{slot_of, answer_size, call_at}
use Rattle.memory.proofs.Rows.{length-put_row, row_put, row_other}
use Rattle.moves.specs.declared.Move.{Move}
use Rattle.moves.specs.Reactions.{answers_in, answers_after}
use Rattle.views.specs.Memory.{Memory, each, call_words_at, cell_at, server_at}
use Rattle.views.proofs.Each.{each_last, each_same, map_each}
use Rattle.views.specs.Changes.{answers_room, answer_of, answer_row, answer_at, put_answer, answers_at, Written, ended_calls, answered}

-- ---- answers: one stored is read back, the others stay

module _ (l : List ℕ) (i : ℕ) (a : Answer) where
  length-put_answer : length (put_answer l i a) ≡ length l
  unfolding put_answer
  length-put_answer = length-put_row (answer_row a) l (i * answer_size) 0

  answer_put_answer : (i + 1) * answer_size ≤ length l → answer_at (put_answer l i a) i ≡ a
  unfolding answer_at put_answer
  answer_put_answer fits = ap answer_of (row_put (answer_row a) l (i * answer_size) 0 (omega arith))

  answer_elsewhere : (k : ℕ) → k ≢ i → answer_at (put_answer l i a) k ≡ answer_at l k
  unfolding answer_at put_answer
  answer_elsewhere k different = ap answer_of (row_other answer_size k i 0 3 (answer_row a) l 0 (omega arith) (omega arith) different)

  -- one stored behind the first i
  answers_appended : (v : List ℕ) (t : List Entry) → (i + 1) * answer_size ≤ length l → answers_at (i + 1) (put_answer l i a) v t ≡ answers_at i l v t ++ (answer_in a v t ∷ [])
  unfolding answers_at
  answers_appended v t fits =
      let next : ℕ → calls.Answer = λ k. answer_in (answer_at (put_answer l i a) k) v t in
      let old : ℕ → calls.Answer = λ k. answer_in (answer_at l k) v t in
      rw (add-one i, each_last i next, each_same i next old (λ k less. ap (λ x. answer_in x v t) (answer_elsewhere k (λ e. omega arith))), answer_put_answer fits)

-- ---- the endings of open calls

endings_append : (a b : List (Option cluster.Call)) → endings (a ++ b) ≡ endings a ++ endings b
unfolding endings
endings_append [] b = refl
endings_append (none ∷ a) b = endings_append a b
endings_append (some c ∷ a) b = ap (λ r. ended c ∷ r) (endings_append a b)

-- what was written stands for these answers, which are at most so many
pub record Holds (v : List ℕ) (t : List Entry) (w : Written) (answers : List calls.Answer) (most : ℕ) : Type 0 where
  pub held : answers_at w.count w.answers v t ≡ answers
  pub few : w.count ≤ most
  pub size : length w.answers ≡ answers_room

module _ (slots : List ℕ) (s : ℕ) (words : ℕ → calls.Words) (v : List ℕ) (t : List Entry) where
  -- the call of bucket b
  abbrev call_of : ℕ → Option cluster.Call
  call_of b = call_in (call_at slots (slot_of s b)) (words b)

  endings_last : (b : ℕ) → endings (each (suc b) call_of) ≡ endings (each b call_of) ++ endings (call_of b ∷ [])
  endings_last b = ap endings (each_last b call_of) ∙ endings_append (each b call_of) (call_of b ∷ [])

  endings_none : (b : ℕ) → among 5 (call_at slots (slot_of s b)).kind ≡ false → endings (each (suc b) call_of) ≡ endings (each b call_of)
  unfolding endings call_in
  endings_none b e = endings_last b ∙ rw (call_in, e) (append-nil (endings (each b call_of)))

  endings_one : (b : ℕ) → among 5 (call_at slots (slot_of s b)).kind ≡ true
      → endings (each (suc b) call_of) ≡ endings (each b call_of) ++ (answer_in (ended_of (call_at slots (slot_of s b))) v t ∷ [])
  unfolding endings call_in
  endings_one b e =
      endings_last b
      ∙ rw (call_in, e) (ap (λ x. endings (each b call_of) ++ (x ∷ [])) (sym (ended_means (call_at slots (slot_of s b)) (words b) v t)))

  ended_calls_mean : (l : List ℕ) (b : ℕ) → length l ≡ answers_room → b ≤ most_answers → Holds v t (ended_calls slots s b l) (endings (each b call_of)) b
  unfolding ended_calls endings each answers_at
  ended_calls_mean l zero size room = record { held = refl; few = omega arith; size = size }
  ended_calls_mean l (suc b) size room = go (ended_calls slots s b l) (ended_calls_mean l b size (omega arith)) (among 5 (call_at slots (slot_of s b)).kind) refl
    where
      c : Answer
      c = ended_of (call_at slots (slot_of s b))

      go : (w : Written) → Holds v t w (endings (each b call_of)) b → (z : Bool) → among 5 (call_at slots (slot_of s b)).kind ≡ z
          → Holds v t (elim z [ true ↦ record { answers = put_answer w.answers w.count c; count = w.count + 1 } | false ↦ w ]) (endings (each (suc b) call_of)) (suc b)
      go w h true e =
          let room : (w.count + 1) * answer_size ≤ length w.answers = omega arith in
          record {
            held = answers_appended w.answers w.count c v t room ∙ rw h.held (sym (endings_one b e));
            few = omega arith;
            size = length-put_answer w.answers w.count c ∙ h.size;
          }
      go w h false e = record { held = h.held ∙ sym (endings_none b e); few = omega arith; size = h.size }

-- ---- what a move answers

server_calls : (n most : ℕ) (m : Memory) (s : ℕ)
    → (server_at n most m s).volatile.calls ≡ each most (λ b. call_in (call_at m.slots (slot_of s b)) (call_words_at m (slot_of s b)))
unfolding server_at cell_at
server_calls n most m s = map_each most (λ b. cell_at n m s (slot_of s b)) (λ (c : Cell). c.call)

module _ (n most s : ℕ) (m : Memory) (v : Move) (l w : List ℕ) (u : List Entry) (size : length l ≡ answers_room) (buckets : most ≤ max_buckets) where
  all_mean : Holds w u (ended_calls m.slots s most l) (endings (server_at n most m s).volatile.calls) most_answers
  all_mean =
      let h = ended_calls_mean m.slots s (λ b. call_words_at m (slot_of s b)) w u l most size buckets in
      rw (server_calls n most m s) (record { held = h.held; few = omega arith; size = h.size })

  one_means : (a : Answer) (z : Bool)
      → Holds w u (elim z [ true ↦ record { answers = l; count = 0 } | false ↦ record { answers = put_answer l 0 a; count = 1 } ]) (elim z [ true ↦ [] | false ↦ answer_in a w u ∷ [] ]) most_answers
  unfolding answers_at each
  one_means a true = record { held = refl; few = omega arith; size = size }
  one_means a false =
      record {
        held = ap (λ x. answer_in x w u ∷ []) (answer_put_answer l 0 a (omega arith));
        few = omega arith;
        size = length-put_answer l 0 a ∙ size;
      }

  pub answered_means : Holds w u (answered m.slots most s v l) (answers_after v w u (server_at n most m s)) most_answers
  unfolding answered answers_after answers_in
  answered_means = go v.ceases refl v.forgets refl
    where
      go : (z : Bool) → v.ceases ≡ z → (y : Bool) → v.forgets ≡ y → Holds w u (answered m.slots most s v l) (answers_after v w u (server_at n most m s)) most_answers
      go true e true f = rw (answered, answers_after, e, f) (one_means v.answer true)
      go true e false f = rw (answered, answers_after, e, f) all_mean
      go false e y f = rw (answered, answers_after, e) (one_means v.answer (eqb v.answer.result 0))
