-- Laws of parts and blocks of a flat list, for every type of element: what was copied to a place is read there, what lies apart stays.
use mathlib.Core.Path.{◌≡◌, sym, ap, ◌∙◌}
use mathlib.Core.Logic.{◌≢◌}
use mathlib.Core.List.{List, [], ◌++◌, append_assoc}
use Prim.Native.Nat.{ℕ, ◌+◌, ◌-◌, ◌*◌, ◌≤◌, ◌<◌}
use native.Mathlib.Decide.{dec_lt}
use native.Mathlib.Omega.{arith}
use lib.ListN.{length, get_or, set, take, drop, take-append-drop, length-drop}
use lib.Seq.{paste, drop-paste, drop-drop, take_at, drop_at, take_all, take-append-le, drop-append-le, length-take-le, get_or-set_same, get_or-set_other}
use Rattle.blocks.specs.Blocks.{blocks, block, refilled}
use Rattle.blocks.proofs.Laws.{blocks_around, length_blocks, get_or_blocks, blocks_stored}

module _ {A : Type 0} where
  -- ---- n elements v pasted at place p

  module _ (l : List A) (p : ℕ) (v : List A) (n : ℕ) (fits : p + n ≤ length l) (whole : length v ≡ n) where
    pub part_pasted : take n (drop p (paste l p v n)) ≡ v
    part_pasted =
        let e : take n v ≡ v = take_all n v (omega arith) in
        rw (append_assoc, drop_at (take p l) (take n v ++ drop (p + n) l) p (length-take-le p l (omega arith)), e, take_at v (drop (p + n) l) n whole)

    -- m elements that end at p or below
    pub part_before : (q m : ℕ) → q + m ≤ p → take m (drop q (paste l p v n)) ≡ take m (drop q l)
    part_before q m h = rw append_assoc (front (take n v ++ drop (p + n) l) ∙ sym (front (drop p l)) ∙ rw take-append-drop)
      where
        front : (r : List A) → take m (drop q (take p l ++ r)) ≡ take m (drop q (take p l))
        front r =
            let hp : length (take p l) ≡ p = length-take-le p l (omega arith) in
            rw (drop-append-le q (take p l) r (omega arith), take-append-le m (drop q (take p l)) r (rw length-drop (omega arith)))

    -- m elements that begin behind them
    pub part_behind : (q m : ℕ) → p + n ≤ q → take m (drop q (paste l p v n)) ≡ take m (drop q l)
    part_behind q m h =
        let e : q ≡ p + n + (q - (p + n)) = omega arith in
        rw (e, ← drop-drop (q - (p + n)) (p + n) (paste l p v n), drop-paste l p v n (omega arith) (omega arith), drop-drop)

  -- a part of block k, where the part of block i was written
  pub part_elsewhere : (w k i r m o : ℕ) (l v : List A) (n : ℕ) → r + m ≤ w → o + n ≤ w → (i + 1) * w ≤ length l → length v ≡ n → k ≢ i
      → take m (drop (k * w + r) (paste l (i * w + o) v n)) ≡ take m (drop (k * w + r) l)
  part_elsewhere w k i r m o l v n inside fits room whole different = by_order (dec_lt k i) (dec_lt i k)
    where
      by_order : Dec (k < i) → Dec (i < k) → take m (drop (k * w + r) (paste l (i * w + o) v n)) ≡ take m (drop (k * w + r) l)
      by_order (yes lt) d = part_before l (i * w + o) v n (omega arith) whole (k * w + r) m (omega (arith, blocks_around w i k lt))
      by_order (no ge) (yes gt) = part_behind l (i * w + o) v n (omega arith) whole (k * w + r) m (omega (arith, blocks_around w k i gt))
      by_order (no ge) (no le) = absurd (different (omega arith))

  -- ---- block i of n stored

  module _ (b n i : ℕ) (l v : List A) (whole : length v ≡ b) (among : i < n) (fits : n * b ≤ length l) where
    pub block_stored : block b i (refilled (set (blocks b (i + 1) l) i v) l) ≡ v
    block_stored =
        sym (get_or_blocks b n i (refilled (set (blocks b (i + 1) l) i v) l) [] among)
        ∙ ap (λ x. get_or x i []) (blocks_stored b i l v whole n among fits)
        ∙ get_or-set_same (blocks b n l) i v [] (rw length_blocks among)

    pub block_elsewhere : (k : ℕ) → k < n → k ≢ i → block b k (refilled (set (blocks b (i + 1) l) i v) l) ≡ block b k l
    block_elsewhere k here different =
        sym (get_or_blocks b n k (refilled (set (blocks b (i + 1) l) i v) l) [] here)
        ∙ ap (λ x. get_or x k []) (blocks_stored b i l v whole n among fits)
        ∙ get_or-set_other (blocks b n l) i k v [] different
        ∙ get_or_blocks b n k l [] here
