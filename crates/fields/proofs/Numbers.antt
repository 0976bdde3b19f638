-- Numbers in bytes, the highest first: each number has one form in n bytes, and each n bytes stand for one number.
use mathlib.Core.Path.{◌≡◌, refl, sym, ap, ap₂, ◌∙◌}
use mathlib.Core.List.{List, [], ◌∷◌, ◌++◌, append_assoc}
use Prim.Native.Nat.{ℕ, zero, suc, ◌+◌, ◌*◌, ◌/◌, ◌%◌, ◌^◌, ◌<◌, ◌≤◌}
use native.Mathlib.Omega.{arith}
use native.Mathlib.Nat.{mod-lt, mod-eq_of_lt, div-eq_of_lt, div-add-mod', mul-add-div_right, mul-add-mod_self_right, mul-le-mul_right, one-le-pow, pow-suc}
use lib.ListN.{length, get_or, take, drop}
use lib.Seq.{sets, sets-eq, length-sets, drop-drop}
use borrow.Rule.Slice.PartMut.{put_mid}
use Rattle.std.specs.Int.{w16, w32, to_be_bytes, from_be_bytes}
use Rattle.table.proofs.Filling.{sets_append}
use Rattle.fields.specs.Form.{big, number}

-- a list of bytes
abbrev pub Bytes : List ℕ → Type 0
Bytes l = (i : ℕ) → get_or l i 0 < 256

pow_positive : (n : ℕ) → 0 < 256 ^ n
pow_positive n = one-le-pow n 256 (omega arith)

pub length_big : (n x : ℕ) → length (big n x) ≡ n
unfolding big
length_big zero x = refl
length_big (suc n) x = ap suc (length_big n (x % 256 ^ n))

pub number_big : (n x : ℕ) → x < 256 ^ n → number (big n x) ≡ x
unfolding big number
number_big zero x h = omega arith
number_big (suc n) x h =
    rw (length_big n (x % 256 ^ n), number_big n (x % 256 ^ n) (mod-lt x (pow_positive n)))
    (div-add-mod' x (256 ^ n))

number_below : (l : List ℕ) → Bytes l → number l < 256 ^ length l
unfolding number
number_below [] h = omega arith
number_below (a ∷ l) h =
    let p = mul-le-mul_right (256 ^ length l) (h 0) in
    let q = number_below l (λ i. h (suc i)) in
    rw (pow-suc 256 (length l)) (omega arith)

pub big_number : (l : List ℕ) → Bytes l → big (length l) (number l) ≡ l
unfolding big number
big_number [] h = refl
big_number (a ∷ l) h =
    let p = 256 ^ length l in
    let b = number_below l (λ i. h (suc i)) in
    let high : (a * p + number l) / p ≡ a = mul-add-div_right (pow_positive (length l)) a (number l) ∙ ap (λ x. a + x) (div-eq_of_lt b) ∙ omega arith in
    let low : (a * p + number l) % p ≡ number l = mul-add-mod_self_right a p (number l) ∙ mod-eq_of_lt b in
    rw (high, low, big_number l (λ i. h (suc i)))

-- ---- the library's forms

pub two_bytes : (x : ℕ) → x < 65536 → to_be_bytes w16 x ≡ big 2 x
unfolding big
two_bytes x h =
    let p : x / 256 % 256 ≡ x / 256 = omega arith in
    let q : x % 256 ≡ x % 256 / 1 = omega arith in
    cc

pub four_bytes : (x : ℕ) → x < 4294967296 → to_be_bytes w32 x ≡ big 4 x
unfolding big
four_bytes x h =
    let p : x / 16777216 % 256 ≡ x / 16777216 = omega arith in
    let q : x / 65536 % 256 ≡ x % 16777216 / 65536 = omega arith in
    let r : x / 256 % 256 ≡ x % 16777216 % 65536 / 256 = omega arith in
    let s : x % 256 ≡ x % 16777216 % 65536 % 256 / 1 = omega arith in
    cc

pub from_two : (a b : ℕ) → from_be_bytes w16 (a ∷ (b ∷ [])) ≡ number (a ∷ (b ∷ []))
unfolding number
from_two a b = omega arith

pub from_four : (a b c d : ℕ) → from_be_bytes w32 (a ∷ (b ∷ (c ∷ (d ∷ [])))) ≡ number (a ∷ (b ∷ (c ∷ (d ∷ []))))
unfolding number
from_four a b c d = omega arith

-- bytes copied over a part are stores, one behind the other
pub part_sets : (at n : ℕ) (out part : List ℕ) → length part ≡ n → at + n ≤ length out → put_mid at n out part ≡ sets out at part
part_sets at n out part e h = rw (drop-drop n at out, ← e) (sym (append_assoc (take at out) part (drop (at + length part) out)) ∙ sym (sets-eq part out at (rw e h)))

-- a part of two bytes from `at` on, and one of four behind it
two_parts : (at : ℕ) (p q out : List ℕ) → length p ≡ 2 → length q ≡ 4 → at + 6 ≤ length out → put_mid (at + 2) 4 (put_mid at 2 out p) q ≡ sets out at (p ++ q)
two_parts at p q out h k l =
    let two = part_sets at 2 out p h (omega arith) in
    let m : length (sets out at p) ≡ length out = length-sets out at p in
    let four = part_sets (at + 2) 4 (sets out at p) q k (omega arith) in
    rw (two, four, ← h) (sym (sets_append out at p q))

-- and four bytes before them
three_parts : (w p q out : List ℕ) → length w ≡ 4 → length p ≡ 2 → length q ≡ 4 → 10 ≤ length out → put_mid 6 4 (put_mid 4 2 (w ++ drop 4 out) p) q ≡ sets out 0 (w ++ (p ++ q))
three_parts w p q out j h k l =
    let m : length (sets out 0 w) ≡ length out = length-sets out 0 w in
    let z : 0 + length w ≡ 4 = omega arith in
    let first : w ++ drop 4 out ≡ sets out 0 w = rw z at (sym (sets-eq w out 0 (omega arith))) in
    ap (λ o. put_mid 6 4 (put_mid 4 2 o p) q) first
    ∙ two_parts 4 p q (sets out 0 w) h k (omega arith)
    ∙ (rw z at (sym (sets_append out 0 w (p ++ q))))

module _ (e n : ℕ) (h : e < 65536) (k : n < 4294967296) where
  pub version_stored : (out : List ℕ) → 16 ≤ length out → put_mid 12 4 (put_mid 10 2 out (to_be_bytes w16 e)) (to_be_bytes w32 n) ≡ sets out 10 (big 2 e ++ big 4 n)
  version_stored out l =
      two_parts 10 (to_be_bytes w16 e) (to_be_bytes w32 n) out refl refl l
      ∙ ap₂ (λ p q. sets out 10 (p ++ q)) (two_bytes e h) (four_bytes n k)

  pub header_stored : (a b c d : ℕ) (out : List ℕ) → 10 ≤ length out → put_mid 6 4 (put_mid 4 2 ((a ∷ (b ∷ (c ∷ (d ∷ [])))) ++ drop 4 out) (to_be_bytes w16 e)) (to_be_bytes w32 n) ≡ sets out 0 (a ∷ (b ∷ (c ∷ (d ∷ (big 2 e ++ big 4 n)))))
  header_stored a b c d out l =
      three_parts (a ∷ (b ∷ (c ∷ (d ∷ [])))) (to_be_bytes w16 e) (to_be_bytes w32 n) out refl refl refl l
      ∙ ap₂ (λ p q. sets out 0 (a ∷ (b ∷ (c ∷ (d ∷ (p ++ q)))))) (two_bytes e h) (four_bytes n k)
