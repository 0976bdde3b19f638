-- Majorities as quorums; and a majority from enough marks.
use mathlib.Core.Path.{◌≡◌, refl}
use mathlib.Core.Bool.{Bool, true, false}
use mathlib.Core.List.{List, [], ◌∷◌}
use Prim.Native.Nat.{ℕ, suc, ◌+◌, ◌*◌, ◌≤◌, ◌<◌}
use native.Mathlib.Omega.{arith}
use lib.ListN.{length}
use Rattle.history.specs.History.{Quorums}
use Rattle.history.specs.Ordering.{Distinct}
use Rattle.history.proofs.Quorum.{Majority, majorities_meet, one_if, put_if, count, marked, marked_passes}

abbrev pub majority_quorums : (first n m : ℕ) → n < 2 * m → Quorums
majority_quorums first n m h = record { Quorum = Majority first n m; meet = majorities_meet first n m h }

module _ {A : Type 0} (f : A → Bool) where
  marked_distinct : (first : ℕ) (l : List A) → Distinct (marked f first l)
  unfolding marked
  marked_distinct first [] = tt
  marked_distinct first (a ∷ l) =
      let ih = marked_distinct (suc first) l in
      elim (f a) as (λ t. Distinct (put_if t first (marked f (suc first) l))) [
        | true ↦ (λ m. omega (arith, (marked_passes f (suc first) l first m).1), ih)
        | false ↦ ih
      ]

  marked_length : (first : ℕ) (l : List A) → length (marked f first l) ≡ count f l
  unfolding marked count
  marked_length first [] = refl
  marked_length first (a ∷ l) =
      let ih = marked_length (suc first) l in
      elim (f a) as (λ t. length (put_if t first (marked f (suc first) l)) ≡ one_if t + count f l) [ true ↦ omega arith | false ↦ omega arith ]

  -- those of enough marks are a majority
  pub quorum_of : (first n m : ℕ) (l : List A) → length l ≤ n → m ≤ count f l → Majority first n m (marked f first l)
  quorum_of first n m l h k = record {
    distinct = marked_distinct first l;
    servers = λ q i. let (j, e, b, t) = marked_passes f first l q i in (omega arith, omega arith);
    enough = omega (arith, marked_length first l);
  }
