-- Laws of the servers that a broadcast goes to: all but the sender, n - 1 of them.
use mathlib.Core.Path.{◌≡◌, refl, ap, subst⁻¹, ◌∙◌}
use mathlib.Core.Logic.{◌≢◌}
use mathlib.Core.Bool.{Bool, true, false}
use mathlib.Core.List.Memᴰ
use mathlib.Core.List.{List, [], ◌∷◌, ◌++◌, append-nil, Memᴰ}
use Prim.Native.Nat.{ℕ, zero, suc, ◌-◌, ◌≤◌, ◌<◌}
use native.Mathlib.Omega.{arith}
use native.Mathlib.Decide.{ℕ_discrete, dec_lt}
use lib.Dec.{eqb}
use lib.ListN.{length, length-append}
use borrow.Author.Tests.{eqb-true, eq-eqb, ne_eqb}
use Rattle.model.specs.Leader.{below, without}

without_append : (p : ℕ) (a b : List ℕ) → without p (a ++ b) ≡ without p a ++ without p b
unfolding without
without_append p [] b = refl
without_append p (q ∷ a) b =
    elim (eqb q p) as
    (λ z. elim z [ true ↦ without p (a ++ b) | false ↦ q ∷ without p (a ++ b) ] ≡ elim z [ true ↦ without p a | false ↦ q ∷ without p a ] ++ without p b)
    [ true ↦ without_append p a b | false ↦ ap (λ r. q ∷ r) (without_append p a b) ]

module _ (p n : ℕ) where
  pub without_skips : eqb n p ≡ true → without p (below (suc n)) ≡ without p (below n)
  unfolding below without
  without_skips e = without_append p (below n) (n ∷ []) ∙ rw (without, e) (append-nil (without p (below n)))

  pub without_takes : eqb n p ≡ false → without p (below (suc n)) ≡ without p (below n) ++ (n ∷ [])
  unfolding below without
  without_takes e = without_append p (below n) (n ∷ []) ∙ rw (without, e)

length_all : (p n : ℕ) → n ≤ p → length (without p (below n)) ≡ n
unfolding below without
length_all p zero h = refl
length_all p (suc n) h = rw (without_takes p n (ne_eqb n p (λ e. omega arith)), length-append, length_all p n (omega arith)) (omega arith)

pub length_others : (p n : ℕ) → p < n → length (without p (below n)) ≡ n - 1
length_others p zero h = absurd (omega arith)
length_others p (suc n) h = go (λ lt. length_others p n lt) (dec_lt p n)
  where
    go : (p < n → length (without p (below n)) ≡ n - 1) → Dec (p < n) → length (without p (below (suc n))) ≡ suc n - 1
    go before (yes lt) = rw (without_takes p n (ne_eqb n p (λ e. omega arith)), length-append, before lt) (omega arith)
    go before (no ge) = rw (without_skips p n (eq-eqb n p (omega arith)), length_all p n (omega arith)) (omega arith)

pub each_other_in : (p n q : ℕ) → q < n → q ≢ p → Memᴰ q (without p (below n))
each_other_in p zero q h d = absurd (omega arith)
each_other_in p (suc n) q h d = go (λ lt. each_other_in p n q lt d) (ℕ_discrete q n) (eqb n p) refl
  where
    go : (q < n → Memᴰ q (without p (below n))) → Dec (q ≡ n) → (t : Bool) → eqb n p ≡ t → Memᴰ q (without p (below (suc n)))
    go before (yes e) true i = absurd (d (e ∙ eqb-true n p i))
    go before (yes e) false i = subst⁻¹ (Memᴰ q) (without_takes p n i) (Memᴰ.append_right (without p (below n)) (Memᴰ.head e))
    go before (no e) true i = subst⁻¹ (Memᴰ q) (without_skips p n i) (before (omega arith))
    go before (no e) false i = subst⁻¹ (Memᴰ q) (without_takes p n i) (Memᴰ.append_left (n ∷ []) (before (omega arith)))
