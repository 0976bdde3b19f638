-- The answers of a line are printed one after another.
use mathlib.Core.Path.{◌≡◌, refl, sym, ap, ◌∙◌}
use mathlib.Core.List.{List, [], ◌∷◌, ◌++◌, append-nil, append_assoc}
use Prim.Native.Nat.{ℕ, ◌≤◌, ◌<◌, ◌+◌, ◌*◌}
use native.Mathlib.Omega.{arith}
use native.Mathlib.Numerals.{add-one}
use lib.ListN.{length, length-append}
use Rattle.entries.specs.Entries.{Entry}
use Rattle.model.specs.Measures.{most_answers}
use Rattle.model.specs.Calls as calls
use Rattle.model.specs.Print.{answer_text, answer_texts}
use Rattle.server.specs.Views.{answer_in}
use Rattle.views.specs.Memory.{each}
use Rattle.views.specs.Changes.{answer_at, answers_at}
use Rattle.views.proofs.Each.{each_last}
use Rattle.print.specs.Printed.{Printed}
use Rattle.print.specs.Room.{answer_room, line_room}
use Rattle.print.proofs.Printing.{both, printed_none, printed_size}
use Rattle.output.specs.Told.{Told}

-- ---- one more answer

texts_last : (l : List calls.Answer) (a : calls.Answer) → answer_texts (l ++ (a ∷ [])) ≡ answer_texts l ++ answer_text a
unfolding answer_texts
texts_last [] a = append-nil (answer_text a)
texts_last (x ∷ l) a = ap (λ r. answer_text x ++ r) (texts_last l a) ∙ sym (append_assoc (answer_text x) (answer_texts l) (answer_text a))

module _ (l v : List ℕ) (t : List Entry) where
  abbrev pub texts_of : ℕ → List ℕ
  texts_of i = answer_texts (answers_at i l v t)

  pub no_texts : texts_of 0 ≡ []
  unfolding answers_at each answer_texts
  no_texts = refl

  pub next_text : (i : ℕ) → texts_of (i + 1) ≡ texts_of i ++ answer_text (answer_in (answer_at l i) v t)
  unfolding answers_at
  next_text i = rw (add-one i, each_last i (λ j. answer_in (answer_at l j) v t)) (texts_last (each i (λ j. answer_in (answer_at l j) v t)) (answer_in (answer_at l i) v t))

-- ---- i of n answers are printed
pub record Answering (l v : List ℕ) (t : List Entry) (n : ℕ) (out₀ : List ℕ) (at : ℕ) (out : List ℕ) (p i : ℕ) : Type 0 where
  pub room : at + line_room ≤ length out₀
  pub few : n ≤ most_answers
  pub inside : i ≤ n
  pub within : p ≤ at + i * answer_room
  pub size : length out ≡ length out₀
  pub printed : Printed (texts_of l v t i) out₀ at out p

module _ (l v : List ℕ) (t : List Entry) where
  pub answering_starts : (n : ℕ) (out : List ℕ) (at : ℕ) → at + line_room ≤ length out → n ≤ most_answers → Answering l v t n out at out at 0
  answering_starts n out at room few =
      record { room = room; few = few; inside = omega arith; within = omega arith; size = refl; printed = printed_none out at (no_texts l v t) }

module _ {l v : List ℕ} {t : List Entry} {n : ℕ} {out₀ : List ℕ} {at : ℕ} {out : List ℕ} {p i : ℕ} (c : Answering l v t n out₀ at out p i) where
  pub answering_fits : i < n → p + answer_room ≤ length out
  answering_fits h = omega (arith, c.room, c.few, c.within, c.size)

  pub answering_goes_on : {after : List ℕ} {q : ℕ} → i < n → Printed (answer_text (answer_in (answer_at l i) v t)) out p after q → q ≤ p + answer_room → Answering l v t n out₀ at after q (i + 1)
  answering_goes_on {after} {q} h d short =
      let a = texts_of l v t i in
      let b = answer_text (answer_in (answer_at l i) v t) in
      let fits : at + length (a ++ b) ≤ length out₀ = omega (arith, c.room, c.few, c.within, c.printed.ends, d.ends, length-append a b) in
      record {
        room = c.room;
        few = c.few;
        inside = omega arith;
        within = omega (arith, c.within);
        size = printed_size (omega (arith, answering_fits h, d.ends)) d ∙ c.size;
        printed = rw (next_text l v t i) (both a b fits c.printed d);
      }

  pub answering_ends : n ≤ i → Told (texts_of l v t n) out₀ at out p
  answering_ends h =
      let e : i ≡ n = omega (arith, c.inside) in
      record { printed = rw e at c.printed; within = omega (arith, c.few, c.inside, c.within) }
