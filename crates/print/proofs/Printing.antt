-- A text printed piece by piece: what is written of it, and what is still to be written.
use mathlib.Core.Path.{◌≡◌, refl, sym, ap, ◌∙◌}
use mathlib.Core.List.{List, [], ◌∷◌, ◌++◌, append-nil}
use mathlib.Core.Option.{some}
use Prim.Native.Nat.{ℕ, ◌≤◌, ◌<◌, ◌+◌, ◌/◌, ◌%◌}
use native.Mathlib.Omega.{arith}
use native.Mathlib.Numerals.{add-one}
use lib.ListN.{length, drop, get_or, set, length-append, take-append-drop, drop_of_length-le}
use lib.Seq.{sets, sets-eq, length-sets, drop-cons}
use Rattle.table.proofs.Filling.{sets_append}
use Rattle.model.specs.Text.{bytes}
use Rattle.model.specs.Print.{hex_digit, hex_pairs, value_text}
use Rattle.print.specs.Printed.{Printed}

-- ---- a piece by itself

-- a printed text as a run of stores
stores : {text before after : List ℕ} {at r : ℕ} → at + length text ≤ length before → Printed text before at after r → after ≡ sets before at text
stores {text} {before} {after} {at} h c = c.is ∙ sym (sets-eq text before at h)

pub printed_stores : {text before after : List ℕ} {at r : ℕ} → at + length text ≤ length before → after ≡ sets before at text → r ≡ at + length text → Printed text before at after r
printed_stores {text} {before} {after} {at} h e f = record { is = e ∙ sets-eq text before at h; ends = f }

pub printed_none : {text : List ℕ} (out : List ℕ) (at : ℕ) → text ≡ [] → Printed text out at out at
printed_none out at e =
    let z : at + 0 ≡ at = omega arith in
    record { is = rw (e, append-nil, z, take-append-drop); ends = rw e (omega arith) }

-- the size of an output stays where a text with room is printed in it
pub printed_size : {text before after : List ℕ} {at r : ℕ} → at + length text ≤ length before → Printed text before at after r → length after ≡ length before
printed_size {text} {before} {after} {at} h c = ap length (stores h c) ∙ length-sets before at text

-- ---- text is being printed at `at`: up to p it is written, and `rest` is left
pub record Printing (text out₀ : List ℕ) (at : ℕ) (rest out : List ℕ) (p : ℕ) : Type 0 where
  pub room : at + length text ≤ length out₀
  pub size : length out ≡ length out₀
  pub ahead : p + length rest ≡ at + length text
  pub left : sets out₀ at text ≡ sets out p rest

pub printing_starts : (text out : List ℕ) (at : ℕ) → at + length text ≤ length out → Printing text out at text out at
printing_starts text out at h = record { room = h; size = refl; ahead = refl; left = refl }

-- a piece fits where what is left begins with it
pub printing_fits : {text out₀ : List ℕ} {at : ℕ} (a b : List ℕ) {out : List ℕ} {p : ℕ} → Printing text out₀ at (a ++ b) out p → p + length a ≤ length out
printing_fits a b c = omega (arith, c.room, c.size, c.ahead, length-append a b)

pub printing_goes_on : {text out₀ : List ℕ} {at : ℕ} (a b : List ℕ) {out after : List ℕ} {p q : ℕ} → Printing text out₀ at (a ++ b) out p → Printed a out p after q → Printing text out₀ at b after q
printing_goes_on {text} {out₀} {at} a b {out} {after} {p} {q} c d =
    let s : after ≡ sets out p a = stores (printing_fits a b c) d in
    record {
      room = c.room;
      size = ap length s ∙ length-sets out p a ∙ c.size;
      ahead = omega (arith, c.ahead, d.ends, length-append a b);
      left = c.left ∙ sets_append out p a b ∙ rw (← d.ends, ← s);
    }

pub printing_ends : {text out₀ : List ℕ} {at : ℕ} {out : List ℕ} {p : ℕ} → Printing text out₀ at [] out p → Printed text out₀ at out p
printing_ends {text} {out₀} {at} {out} {p} c = printed_stores c.room (sym c.left) (omega (arith, c.ahead))

-- ---- two pieces: there is room for the second, and both are printed
module _ (a b : List ℕ) {out : List ℕ} {at : ℕ} (room : at + length (a ++ b) ≤ length out) where
  next : {mid : List ℕ} {p : ℕ} → Printed a out at mid p → Printing (a ++ b) out at (b ++ []) mid p
  next d = rw (append-nil b) (printing_goes_on a b (printing_starts (a ++ b) out at room) d)

  pub fits_second : {mid : List ℕ} {p : ℕ} → Printed a out at mid p → p + length b ≤ length mid
  fits_second d = printing_fits b [] (next d)

  pub both : {mid after : List ℕ} {p q : ℕ} → Printed a out at mid p → Printed b mid p after q → Printed (a ++ b) out at after q
  both d e = printing_ends (printing_goes_on b [] (next d) e)

-- ---- a list printed element by element: T is its text, and i elements are written
pub record Each {A : Type 0} (T : List A → List ℕ) (l : List A) (out₀ : List ℕ) (at : ℕ) (out : List ℕ) (p i : ℕ) : Type 0 where
  pub inside : i ≤ length l
  pub going : Printing (T l) out₀ at (T (drop i l)) out p

-- a is the text of the element at i
pub record Next {A : Type 0} (T : List A → List ℕ) (l : List A) (i : ℕ) (a : List ℕ) : Type 0 where
  pub is : T (drop i l) ≡ a ++ T (drop (i + 1) l)

pub each_starts : {A : Type 0} (T : List A → List ℕ) (l : List A) (out : List ℕ) (at : ℕ) → at + length (T l) ≤ length out → Each T l out at out at 0
each_starts T l out at h = record { inside = omega arith; going = printing_starts (T l) out at h }

module _ {A : Type 0} {T : List A → List ℕ} {l : List A} {out₀ : List ℕ} {at : ℕ} {out : List ℕ} {p i : ℕ} (c : Each T l out₀ at out p i) where
  pub each_fits : {a : List ℕ} → Next T l i a → p + length a ≤ length out
  each_fits {a} e = printing_fits a (T (drop (i + 1) l)) (rw e.is at c.going)

  pub each_goes_on : {a after : List ℕ} {q : ℕ} → i < length l → Next T l i a → Printed a out p after q → Each T l out₀ at after q (i + 1)
  each_goes_on {a} h e d = record { inside = omega arith; going = printing_goes_on a (T (drop (i + 1) l)) (rw e.is at c.going) d }

  pub each_ends : T [] ≡ [] → length l ≤ i → Printed (T l) out₀ at out p
  each_ends e h =
      let n : T (drop i l) ≡ [] = rw (drop_of_length-le l {i = i} h) e in
      printing_ends (rw n at c.going)

  pub each_size : length out ≡ length out₀
  each_size = c.going.size

-- ---- pairs of digits

pub next_pair : (l : List ℕ) (i : ℕ) → i < length l → Next hex_pairs l i (hex_digit (get_or l i 0 / 16) ∷ (hex_digit (get_or l i 0 % 16) ∷ []))
unfolding hex_pairs
next_pair l i h = record { is = rw (drop-cons l i 0 h, add-one i) }

pub printed_two : (out : List ℕ) (p x y : ℕ) → p + 2 ≤ length out → Printed (x ∷ (y ∷ [])) out p (set (set out p x) (p + 1) y) (p + 2)
printed_two out p x y h = printed_stores h (rw (add-one p)) refl

pub pairs_end : hex_pairs [] ≡ []
unfolding hex_pairs
pairs_end = refl

-- a value of no bytes is `.`, any other its pairs
pub text_empty : (l : List ℕ) → length l ≡ 0 → value_text (some l) ≡ bytes "."
unfolding value_text
text_empty [] h = refl
text_empty (b ∷ l) h = absurd (omega arith)

pub text_pairs : (l : List ℕ) → (length l ≡ 0 → ⊥) → value_text (some l) ≡ hex_pairs l
unfolding value_text
text_pairs [] h = absurd (h refl)
text_pairs (b ∷ l) h = refl
