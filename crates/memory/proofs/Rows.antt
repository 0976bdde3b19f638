-- Laws of words read and written one by one, for every place and number of words: what was stored is read back, words apart from it stay.
use mathlib.Core.Path.{◌≡◌, refl, ap, ◌∙◌}
use mathlib.Core.Logic.{◌≢◌}
use mathlib.Core.List.{List, [], ◌∷◌, ◌++◌}
use Prim.Native.Nat.{ℕ, zero, suc, ◌+◌, ◌*◌, ◌≤◌, ◌<◌}
use native.Mathlib.Decide.{dec_lt}
use native.Mathlib.Omega.{arith}
use lib.ListN.{length, get_or, set, take, drop, length-set, get_or-append}
use lib.Seq.{get_or-take, length-take-le, take_all, drop-cons, drop-set-lt, get_or-set_same, get_or-set_other}
use Rattle.blocks.proofs.Laws.{blocks_around}
use Rattle.memory.specs.Rows.{row, put_row}

pub length-put_row : (vs l : List ℕ) (p o : ℕ) → length (put_row l p o vs) ≡ length l
length-put_row [] l p o = refl
length-put_row (v ∷ vs) l p o = length-put_row vs (set l (p + o) v) p (o + 1) ∙ length-set l (p + o) v

-- words behind what is stored
pub drop-put_row : (vs l : List ℕ) (p o n : ℕ) → p + o + length vs ≤ n → drop n (put_row l p o vs) ≡ drop n l
drop-put_row [] l p o n h = refl
drop-put_row (v ∷ vs) l p o n h = drop-put_row vs (set l (p + o) v) p (o + 1) n (omega arith) ∙ drop-set-lt n l (p + o) v (omega arith)

-- a place that is not written
unwritten : (vs l : List ℕ) (p o x : ℕ) → ((j : ℕ) → j < length vs → x ≢ p + o + j) → get_or (put_row l p o vs) x 0 ≡ get_or l x 0
unwritten [] l p o x h = refl
unwritten (v ∷ vs) l p o x h =
    let later : (j : ℕ) → j < length vs → x ≢ p + (o + 1) + j = λ j hj e. h (j + 1) (omega arith) (omega arith) in
    unwritten vs (set l (p + o) v) p (o + 1) x later ∙ get_or-set_other l (p + o) x v 0 (λ e. h 0 (omega arith) (omega arith))

-- what was stored is read back
pub row_put : (vs l : List ℕ) (p o : ℕ) → p + o + length vs ≤ length l → row p o (length vs) (put_row l p o vs) ≡ vs
row_put [] l p o h = refl
row_put (v ∷ vs) l p o h =
    let first : get_or (put_row (set l (p + o) v) p (o + 1) vs) (p + o) 0 ≡ v =
    unwritten vs (set l (p + o) v) p (o + 1) (p + o) (λ j hj e. absurd (omega arith)) ∙ get_or-set_same l (p + o) v 0 (omega arith) in
    let fits : p + (o + 1) + length vs ≤ length (set l (p + o) v) = rw length-set (omega arith) in
    rw first (ap (λ r. v ∷ r) (row_put vs (set l (p + o) v) p (o + 1) fits))

-- words apart from what was stored stay
row_apart : (n q r : ℕ) (vs l : List ℕ) (p o : ℕ) → ((i j : ℕ) → i < n → j < length vs → q + r + i ≢ p + o + j)
    → row q r n (put_row l p o vs) ≡ row q r n l
row_apart zero q r vs l p o h = refl
row_apart (suc n) q r vs l p o h =
    let here : get_or (put_row l p o vs) (q + r) 0 ≡ get_or l (q + r) 0 = unwritten vs l p o (q + r) (λ j hj e. h 0 j (omega arith) hj (omega arith)) in
    let later : (i j : ℕ) → i < n → j < length vs → q + (r + 1) + i ≢ p + o + j = λ i j hi hj e. h (i + 1) j (omega arith) hj (omega arith) in
    rw here (ap (λ x. get_or l (q + r) 0 ∷ x) (row_apart n q (r + 1) vs l p o later))

-- ---- rows at an offset of blocks of w words: k names the block that is read, i the one that is written

module _ (w k i r n : ℕ) (vs l : List ℕ) (o : ℕ) (inside : r + n ≤ w) (fits : o + length vs ≤ w) where
  -- at places that are apart if the blocks are the same
  pub row_beside : (k ≡ i → (a b : ℕ) → a < n → b < length vs → r + a ≢ o + b) → row (k * w) r n (put_row l (i * w) o vs) ≡ row (k * w) r n l
  row_beside apart = row_apart n (k * w) r vs l (i * w) o (λ a b ha hb e. by_order a b ha hb e (dec_lt k i) (dec_lt i k))
    where
      by_order : (a b : ℕ) → a < n → b < length vs → k * w + r + a ≡ i * w + o + b → Dec (k < i) → Dec (i < k) → ⊥
      by_order a b ha hb e (yes lt) d = omega (arith, blocks_around w i k lt)
      by_order a b ha hb e (no ge) (yes gt) = omega (arith, blocks_around w k i gt)
      by_order a b ha hb e (no ge) (no le) =
          let same : k ≡ i = omega arith in
          let s : k * w ≡ i * w = ap (λ x. x * w) same in
          apart same a b ha hb (omega arith)

  -- in another block
  pub row_other : k ≢ i → row (k * w) r n (put_row l (i * w) o vs) ≡ row (k * w) r n l
  row_other different = row_beside (λ same. absurd (different same))

-- words of the front of a list, whatever stands behind it
pub row_front : (n p o k : ℕ) (l r : List ℕ) → p + o + n ≤ k → k ≤ length l → row p o n (take k l ++ r) ≡ row p o n l
row_front zero p o k l r h fits = refl
row_front (suc n) p o k l r h fits =
    let long : length (take k l) ≡ k = length-take-le k l fits in
    let here : get_or (take k l ++ r) (p + o) 0 ≡ get_or l (p + o) 0 = get_or-append (take k l) r 0 (p + o) (omega arith) ∙ get_or-take k l (p + o) 0 (omega arith) in
    rw here (ap (λ x. get_or l (p + o) 0 ∷ x) (row_front n p (o + 1) k l r (omega arith) fits))

-- ---- rows as parts of the list

row_part : (n p o : ℕ) (l : List ℕ) → p + o + n ≤ length l → row p o n l ≡ take n (drop (p + o) l)
row_part zero p o l h = refl
row_part (suc n) p o l h =
    let e : p + (o + 1) ≡ suc (p + o) = omega arith in
    let rest : row p (o + 1) n l ≡ take n (drop (suc (p + o)) l) = rw (← e) (row_part n p (o + 1) l (omega arith)) in
    rw (drop-cons l (p + o) 0 (omega arith)) (ap (λ x. get_or l (p + o) 0 ∷ x) rest)

-- a list of n words, read word by word, is the list
pub row_all : (n : ℕ) (l : List ℕ) → length l ≡ n → row 0 0 n l ≡ l
row_all n l size = row_part n 0 0 l (omega arith) ∙ take_all n l (omega arith)
