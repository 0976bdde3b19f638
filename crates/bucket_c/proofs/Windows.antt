-- Bytes taken out of a slice, zeros where there are none.
use mathlib.Core.Path.{◌≡◌, refl, ap₂}
use mathlib.Core.List.{List, [], ◌∷◌}
use Prim.Native.Nat.{ℕ, zero, suc, ◌<◌, ◌+◌}
use native.Mathlib.Omega.{arith}
use lib.ListN.{length, get_or}
use Rattle.bucket_c.specs.Exports.{window}

-- n bytes that are those from `at` of l on
pub windowed : (n at : ℕ) (l w : List ℕ) → length w ≡ n → ((i : ℕ) → i < n → get_or w i 0 ≡ get_or l (at + i) 0) → w ≡ window n at l
unfolding window
windowed zero at l [] h f = refl
windowed zero at l (x ∷ w) h f = absurd (omega arith)
windowed (suc n) at l [] h f = absurd (omega arith)
windowed (suc n) at l (x ∷ w) h f =
    let z : at + 0 ≡ at = omega arith in
    let k : length w ≡ n = omega arith in
    ap₂ (λ y r. y ∷ r) (rw z at (f 0 (omega arith)))
    (windowed n (suc at) l w k (λ i q. let e : at + suc i ≡ suc at + i = omega arith in rw e at (f (suc i) (omega arith))))

-- four items, one by one
pub four_items : {A : Type 0} (f : ℕ → A) (d : A) (w : List A) → length w ≡ 4 → ((i : ℕ) → i < 4 → get_or w i d ≡ f i) → w ≡ f 0 ∷ (f 1 ∷ (f 2 ∷ (f 3 ∷ [])))
four_items f d [] h e = absurd (omega arith)
four_items f d (a ∷ []) h e = absurd (omega arith)
four_items f d (a ∷ (b ∷ [])) h e = absurd (omega arith)
four_items f d (a ∷ (b ∷ (c ∷ []))) h e = absurd (omega arith)
four_items f d (a ∷ (b ∷ (c ∷ (g ∷ [])))) h e =
    let p : a ≡ f 0 = e 0 (omega arith) in
    let q : b ≡ f 1 = e 1 (omega arith) in
    let r : c ≡ f 2 = e 2 (omega arith) in
    let s : g ≡ f 3 = e 3 (omega arith) in
    cc
four_items f d (a ∷ (b ∷ (c ∷ (g ∷ (k ∷ w))))) h e = absurd (omega arith)
