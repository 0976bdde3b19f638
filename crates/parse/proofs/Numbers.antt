-- Digits and numbers: what a byte is as a digit, and a number read digit by digit.
use mathlib.Core.Path.{◌≡◌, refl, sym, ap, ◌∙◌}
use mathlib.Core.List.{List, [], ◌∷◌}
use mathlib.Core.Bool.{Bool, true, false}
use Rattle.std.specs.Prelude.{None, Some}
use mathlib.Core.Option as M
use Prim.Native.Nat.{ℕ, suc, ◌≤◌, ◌<◌, ◌+◌, ◌*◌, ◌^◌}
use native.Mathlib.Omega.{arith}
use native.Mathlib.Numerals.{add-one}
use native.Mathlib.Nat.{zero-add, pow-suc, pow-le-pow_right}
use native.Mathlib.Decide.{dec_lt}
use lib.Dec.{eqb, leb}
use lib.ListN.{length, drop, get_or, drop_of_length-le}
use lib.Seq.{drop-cons}
use borrow.Author.Tests.{leb-true, le-leb, lt-leb, eq-eqb, ne_eqb}
use Rattle.model.specs.Parse.{digit, decimal_from, number}
use Rattle.parse.specs.Digits.{optional}

-- ---- what a reader answered

pub was_some : {A : Type 0} (o : M.Option A) {a : A} → Some a ≡ optional o → o ≡ M.some a
was_some M.none h = cc
was_some (M.some b) h = cc

pub was_none : {A : Type 0} (o : M.Option A) → None ≡ optional o → o ≡ M.none
was_none M.none h = refl
was_none (M.some b) h = cc

-- ---- a number read digit by digit: n has the digits before i
pub record Reading (l : List ℕ) (n i : ℕ) : Type 0 where
  pub inside : i ≤ length l
  pub short : length l ≤ 9
  pub size : n < 10 ^ i
  pub rest : decimal_from 0 l ≡ decimal_from n (drop i l)

pub reading_starts : (l : List ℕ) → length l ≤ 9 → Reading l 0 0
reading_starts l h = record { inside = omega arith; short = h; size = omega arith; rest = refl }

-- one digit more
decimal_more : (n b d : ℕ) (l : List ℕ) → digit b ≡ M.some d → decimal_from n (b ∷ l) ≡ decimal_from (n * 10 + d) l
unfolding decimal_from
decimal_more n b d l e = rw (decimal_from, e)

decimal_stops : (n b : ℕ) (l : List ℕ) → digit b ≡ M.none → decimal_from n (b ∷ l) ≡ M.none
unfolding decimal_from
decimal_stops n b l e = rw (decimal_from, e)

module _ {l : List ℕ} {n i : ℕ} (c : Reading l n i) where
  -- there is room for one digit more
  pub reading_small : i < length l → n < 100000000
  reading_small h = omega (arith, c.size, pow-le-pow_right {n = 10} (omega arith) {i = i} {j = 8} (omega (arith, c.short)))

  pub reading_goes_on : {d : ℕ} → i < length l → Some d ≡ optional (digit (get_or l i 0)) → d ≤ 9 → Reading l (n * 10 + d) (i + 1)
  reading_goes_on {d} h e k = record { inside = omega arith; short = c.short; size = rw (add-one i, pow-suc 10 i) (omega (arith, c.size)); rest = c.rest ∙ more }
    where
      read : digit (get_or l i 0) ≡ M.some d
      read = was_some (digit (get_or l i 0)) e

      more : decimal_from n (drop i l) ≡ decimal_from (n * 10 + d) (drop (i + 1) l)
      more = rw (add-one i, drop-cons l i 0 h) (decimal_more n (get_or l i 0) d (drop (suc i) l) read)

  pub reading_fails : i < length l → None ≡ optional (digit (get_or l i 0)) → None ≡ optional (decimal_from 0 l)
  reading_fails h e = ap optional (sym (c.rest ∙ stops))
    where
      stops : decimal_from n (drop i l) ≡ M.none
      stops = rw (drop-cons l i 0 h) (decimal_stops n (get_or l i 0) (drop (suc i) l) (was_none (digit (get_or l i 0)) e))

  pub reading_ends : length l ≤ i → Some n ≡ optional (decimal_from 0 l)
  reading_ends h = ap optional (sym (c.rest ∙ whole))
    where
      whole : decimal_from n (drop i l) ≡ M.some n
      whole = unfold decimal_from in rw (drop_of_length-le l {i = i} h)

-- ---- which words are numbers

pub number_none : (l : List ℕ) → length l ≡ 0 → M.none ≡ number l
unfolding number
number_none [] h = refl
number_none (b ∷ l) h = absurd (omega arith)

pub number_long : (l : List ℕ) → 9 < length l → M.none ≡ number l
number_long [] h = absurd (omega arith)
number_long (b ∷ []) h = absurd (omega arith)
number_long (b ∷ (c ∷ l)) h = go (eqb b 48) refl
  where
    m : 7 < length l
    m = omega arith

    go : (t : Bool) → eqb b 48 ≡ t → M.none ≡ number (b ∷ (c ∷ l))
    go true e = unfold number in rw (number, e)
    go false e = unfold number in rw (number, e, lt-leb (length l) 7 m)

pub number_zero : (l : List ℕ) → 1 < length l → get_or l 0 0 ≡ 48 → M.none ≡ number l
number_zero [] h e = absurd (omega arith)
number_zero (b ∷ []) h e = absurd (omega arith)
number_zero (b ∷ (c ∷ l)) h e = unfold number in rw (number, eq-eqb b 48 e)

pub number_one : (b : ℕ) (o : M.Option ℕ) → digit b ≡ o → decimal_from 0 (b ∷ []) ≡ digit b
number_one b M.none e = unfold decimal_from in rw (decimal_from, e)
number_one b (M.some d) e = unfold decimal_from in rw (decimal_from, e, zero-add)

pub number_read : (l : List ℕ) → 1 ≤ length l → length l ≤ 9 → (1 < length l → get_or l 0 0 ≡ 48 → ⊥) → decimal_from 0 l ≡ number l
unfolding number
number_read [] h k n = absurd (omega arith)
number_read (b ∷ []) h k n = number_one b (digit b) refl
number_read (b ∷ (c ∷ l)) h k n = rw (number, ne_eqb b 48 (n (omega arith)), le-leb (length l) 7 (omega arith))

-- no digit, or more than nine
pub number_sized : (l : List ℕ) → (1 ≤ length l → 9 < length l) → None ≡ optional (number l)
number_sized l h = go (dec_lt 0 (length l))
  where
    go : Dec (0 < length l) → None ≡ optional (number l)
    go (yes k) = ap optional (number_long l (h k))
    go (no k) = ap optional (number_none l (omega arith))

-- the digits of a word that is a number
pub number_digits : (l : List ℕ) {n : ℕ} → number l ≡ M.some n → (length l ≤ 9) × (decimal_from 0 l ≡ M.some n)
number_digits [] h = absurd (unfold number in cc)
number_digits (b ∷ []) h = unfold number in (omega arith, number_one b (digit b) refl ∙ h)
number_digits (b ∷ (c ∷ l)) {n} h = go (eqb b 48) refl (leb (length l) 7) refl (unfold number in h)
  where
    go : (t : Bool) → eqb b 48 ≡ t → (u : Bool) → leb (length l) 7 ≡ u → elim (eqb b 48) [ true ↦ M.none | false ↦ elim (leb (length l) 7) [ false ↦ M.none | true ↦ decimal_from 0 (b ∷ (c ∷ l)) ] ] ≡ M.some n → (length (b ∷ (c ∷ l)) ≤ 9) × (decimal_from 0 (b ∷ (c ∷ l)) ≡ M.some n)
    go true e u f k = absurd (cc (rw e at k))
    go false e false f k = absurd (cc (rw (e, f) at k))
    go false e true f k = (omega (arith, leb-true (length l) 7 f), rw (e, f) at k)
