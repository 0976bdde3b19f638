-- The figures of a number: one more digit in front, and how many there are.
use mathlib.Core.Path.{◌≡◌, sym, ◌∙◌}
use mathlib.Core.List.{List, [], ◌∷◌}
use Prim.Native.Nat.{ℕ, zero, suc, ◌≤◌, ◌<◌, ◌+◌, ◌-◌, ◌*◌, ◌/◌, ◌%◌, ◌^◌}
use native.Mathlib.Omega.{arith}
use native.Mathlib.Nat.{pow-suc}
use native.Mathlib.Decide.{dec_lt}
use lib.ListN.{length, take, drop, set, length-set, length-drop, drop_of_length-le}
use lib.Seq.{take_all, drop-cons, drop-set-lt, get_or-set_same}
use borrow.Author.Tests.{lt-ltb, le-ltb}
use Rattle.model.specs.Print.{decimal_into, decimal}
use Rattle.print.specs.declared.Figures.{Figures}
use Rattle.print.specs.Figures.{FiguresOf}

-- ---- the recursion of the definition

last_figure : (f n : ℕ) (rest : List ℕ) → n < 10 → decimal_into (suc f) n rest ≡ (48 + n) ∷ rest
unfolding decimal_into
last_figure f n rest h = rw (decimal_into, lt-ltb n 10 h)

next_figure : (f n : ℕ) (rest : List ℕ) → 10 ≤ n → decimal_into (suc f) n rest ≡ decimal_into f (n / 10) ((48 + n % 10) ∷ rest)
unfolding decimal_into
next_figure f n rest h = rw (decimal_into, le-ltb n 10 h)

-- its bound on the recursion does not matter
any_bound : (f g n : ℕ) (rest : List ℕ) → n < f → n < g → decimal_into f n rest ≡ decimal_into g n rest
any_bound zero g n rest h k = absurd (omega arith)
any_bound (suc f) zero n rest h k = absurd (omega arith)
any_bound (suc f) (suc g) n rest h k = go (dec_lt n 10) (any_bound f g (n / 10) ((48 + n % 10) ∷ rest))
  where
    go : Dec (n < 10) → (n / 10 < f → n / 10 < g → decimal_into f (n / 10) ((48 + n % 10) ∷ rest) ≡ decimal_into g (n / 10) ((48 + n % 10) ∷ rest)) → decimal_into (suc f) n rest ≡ decimal_into (suc g) n rest
    go (yes l) ih = last_figure f n rest l ∙ sym (last_figure g n rest l)
    go (no l) ih =
        let m : 10 ≤ n = omega arith in
        next_figure f n rest m ∙ ih (omega arith) (omega arith) ∙ sym (next_figure g n rest m)

figure_step : (n : ℕ) (rest : List ℕ) → 10 ≤ n → decimal_into (suc n) n rest ≡ decimal_into (suc (n / 10)) (n / 10) ((48 + n % 10) ∷ rest)
figure_step n rest h = next_figure n n rest h ∙ any_bound n (suc (n / 10)) (n / 10) ((48 + n % 10) ∷ rest) (omega arith) (omega arith)

-- ---- the figures of n from the last on: those of `rest` are still to be put before the bytes from i on
pub record Counting (n : ℕ) (bytes : List ℕ) (i rest : ℕ) : Type 0 where
  pub some : 1 ≤ i
  pub low : i ≤ 10
  pub ten : length bytes ≡ 10
  pub size : rest < 10 ^ i
  pub left : decimal n ≡ decimal_into (suc rest) rest (drop i bytes)

pub counting_starts : (n : ℕ) (bytes : List ℕ) → n < 2 ^ 32 → length bytes ≡ 10 → Counting n bytes 10 n
unfolding decimal
counting_starts n bytes h k = record { some = omega arith; low = omega arith; ten = k; size = omega arith; left = rw (drop_of_length-le bytes {i = 10} (omega arith)) }

two_left : (n i : ℕ) → 10 ≤ n → n < 10 ^ i → 2 ≤ i
two_left n zero h k = absurd (omega arith)
two_left n (suc zero) h k = absurd (omega arith)
two_left n (suc (suc i)) h k = omega arith

module _ {n : ℕ} {bytes : List ℕ} {i rest : ℕ} (c : Counting n bytes i rest) where
  -- a byte put before those from i on
  in_front : (x : ℕ) → drop (i - 1) (set bytes (i - 1) x) ≡ x ∷ drop i bytes
  in_front x =
      let m : suc (i - 1) ≡ i = omega (arith, c.some) in
      let l : i - 1 < length bytes = omega (arith, c.some, c.low, c.ten) in
      drop-cons (set bytes (i - 1) x) (i - 1) 0 (rw length-set l)
      ∙ rw (get_or-set_same bytes (i - 1) x 0 l, drop-set-lt (suc (i - 1)) bytes (i - 1) x (omega arith), m)

  pub counting_goes_on : 9 < rest → Counting n (set bytes (i - 1) (48 + rest % 10)) (i - 1) (rest / 10)
  counting_goes_on h =
      let t : 2 ≤ i = two_left rest i h c.size in
      let e : i ≡ suc (i - 1) = omega arith in
      let s : rest < 10 ^ (i - 1) * 10 = rw (e, pow-suc) at c.size in
      record {
        some = omega arith;
        low = omega (arith, c.low);
        ten = length-set bytes (i - 1) (48 + rest % 10) ∙ c.ten;
        size = omega arith;
        left = c.left ∙ figure_step rest (drop i bytes) h ∙ rw (in_front (48 + rest % 10));
      }

  pub counting_ends : rest ≤ 9 → FiguresOf n (record { bytes = set bytes (i - 1) (48 + rest); from = i - 1 })
  counting_ends h = record { is = in_front (48 + rest) ∙ sym (c.left ∙ last_figure rest rest (drop i bytes) (omega arith)); within = omega (arith, c.low); ten = length-set bytes (i - 1) (48 + rest) ∙ c.ten }

pub figures_whole : {n : ℕ} {f : Figures} → FiguresOf n f → take (10 - f.from) (drop f.from f.bytes) ≡ decimal n
figures_whole {n} {f} c = take_all (10 - f.from) (drop f.from f.bytes) (rw length-drop (omega (arith, c.ten))) ∙ c.is

-- ---- how many figures there are

figures_longer : (f n : ℕ) (rest : List ℕ) (k : ℕ) → n < f → n < 10 ^ suc k → length (decimal_into f n rest) ≤ suc k + length rest
figures_longer zero n rest k h l = absurd (omega arith)
figures_longer (suc f) n rest zero h l = rw (last_figure f n rest l) (omega arith)
figures_longer (suc f) n rest (suc k) h l = go (dec_lt n 10) (figures_longer f (n / 10) ((48 + n % 10) ∷ rest) k)
  where
    go : Dec (n < 10) → (n / 10 < f → n / 10 < 10 ^ suc k → length (decimal_into f (n / 10) ((48 + n % 10) ∷ rest)) ≤ suc k + suc (length rest)) → length (decimal_into (suc f) n rest) ≤ suc (suc k) + length rest
    go (yes m) ih = rw (last_figure f n rest m) (omega arith)
    go (no m) ih =
        let t : n < 10 ^ suc k * 10 = rw pow-suc at l in
        rw (next_figure f n rest (omega arith)) (omega (arith, ih (omega arith) (omega arith)))

-- a number below 10 ^ k has at most k figures
pub length_decimal : (k n : ℕ) → 1 ≤ k → n < 10 ^ k → length (decimal n) ≤ k
unfolding decimal
length_decimal zero n h l = absurd (omega arith)
length_decimal (suc k) n h l = omega (arith, figures_longer (suc n) n [] k (omega arith) l)
