-- Laws of counting in a list.
use Rattle.std.proofs.Common.{◌≡◌, ℕ, zero, suc, ◌+◌, ◌<◌, ◌≤◌, min, Bool, true, false, eqb, List, [], ◌∷◌, ◌++◌, map, length, take, set, replicate, refl, ap, arith, length-take, eqb-true, cond, ◌==◌}
use Rattle.std.specs.List.{count_by}
use Rattle.std.proofs.lemmas.List.Sums.{count_by-le-length}
use Rattle.std.proofs.lemmas.List.Recursion.{is_count_by}
use Rattle.model.specs.Cluster.{silent, acknowledged, refused}
use Rattle.model.specs.Leader.{votes_for, acknowledgements, refusals}
use Rattle.server.specs.Views.{flag_in, mark_in}

-- votes are the ones
vote_step : (y : ℕ) (l : List ℕ) → votes_for (map flag_in (y ∷ l)) ≡ cond (y == 1) (1 + votes_for (map flag_in l)) (votes_for (map flag_in l))
unfolding votes_for flag_in
vote_step y l =
    elim (eqb y 1) as (λ b. votes_for (b ∷ map flag_in l) ≡ cond b (1 + votes_for (map flag_in l)) (votes_for (map flag_in l)))
    [ true ↦ omega arith | false ↦ refl ]

pub votes_count : (l : List ℕ) → votes_for (map flag_in l) ≡ count_by (λ y. y == 1) l
unfolding votes_for
votes_count l = is_count_by (λ m. votes_for (map flag_in m)) (λ y. y == 1) refl vote_step l

acknowledged_step : (y : ℕ) (l : List ℕ)
    → acknowledgements (map mark_in (y ∷ l)) ≡ cond (y == 1) (1 + acknowledgements (map mark_in l)) (acknowledgements (map mark_in l))
unfolding acknowledgements mark_in
acknowledged_step y l =
    elim (eqb y 1) as
    (λ b. acknowledgements (elim b [ true ↦ acknowledged | false ↦ elim (eqb y 2) [ true ↦ refused | false ↦ silent ] ] ∷ map mark_in l) ≡ cond b (1 + acknowledgements (map mark_in l)) (acknowledgements (map mark_in l))) [
      | true ↦ omega arith
      | false ↦
          elim (eqb y 2) as (λ b. acknowledgements (elim b [ true ↦ refused | false ↦ silent ] ∷ map mark_in l) ≡ acknowledgements (map mark_in l))
          [ true ↦ refl | false ↦ refl ]
    ]

pub acknowledgements_count : (l : List ℕ) → acknowledgements (map mark_in l) ≡ count_by (λ y. y == 1) l
unfolding acknowledgements
acknowledgements_count l = is_count_by (λ m. acknowledgements (map mark_in m)) (λ y. y == 1) refl acknowledged_step l

refused_step : (y : ℕ) (l : List ℕ) → refusals (map mark_in (y ∷ l)) ≡ cond (y == 2) (1 + refusals (map mark_in l)) (refusals (map mark_in l))
unfolding refusals mark_in
refused_step y l = go (eqb y 1) refl
  where
    -- a one is no two
    go : (b : Bool) → eqb y 1 ≡ b
        → refusals (elim b [ true ↦ acknowledged | false ↦ elim (eqb y 2) [ true ↦ refused | false ↦ silent ] ] ∷ map mark_in l)
        ≡ cond (y == 2) (1 + refusals (map mark_in l)) (refusals (map mark_in l))
    go true e = let h : eqb y 2 ≡ false = rw (eqb-true y 1 e) in rw h
    go false e =
        elim (eqb y 2) as (λ b. refusals (elim b [ true ↦ refused | false ↦ silent ] ∷ map mark_in l) ≡ cond b (1 + refusals (map mark_in l)) (refusals (map mark_in l)))
        [ true ↦ omega arith | false ↦ refl ]

pub refusals_count : (l : List ℕ) → refusals (map mark_in l) ≡ count_by (λ y. y == 2) l
unfolding refusals
refusals_count l = is_count_by (λ m. refusals (map mark_in m)) (λ y. y == 2) refl refused_step l

-- no more refusals than servers
pub refusals_within : (n : ℕ) (l : List ℕ) → refusals (map mark_in (take n l)) ≤ n
refusals_within n l = omega (arith, refusals_count (take n l), count_by-le-length (λ y. y == 2) (take n l), length-take n l)

-- ---- places of a list

-- a place set among the first n is set in what they stand for
pub set_viewed : {A B : Type 0} (f : A → B) (n : ℕ) (l : List A) (q : ℕ) (v : A) → map f (take n (set l q v)) ≡ set (map f (take n l)) q (f v)
set_viewed f zero l q v = refl
set_viewed f (suc n) [] q v = refl
set_viewed f (suc n) (y ∷ l) zero v = refl
set_viewed f (suc n) (y ∷ l) (suc q) v = ap (λ m. f y ∷ m) (set_viewed f n l q v)

-- the first n of k places that are the same
pub replicate_viewed : {A B : Type 0} (f : A → B) (a : A) (n k : ℕ) → map f (take n (replicate k a)) ≡ replicate (min k n) (f a)
replicate_viewed f a zero k = let e : min k 0 ≡ 0 = omega arith in rw e
replicate_viewed f a (suc n) zero = let e : min 0 (suc n) ≡ 0 = omega arith in rw e
replicate_viewed f a (suc n) (suc k) =
    let e : min (suc k) (suc n) ≡ suc (min k n) = omega arith in rw e (ap (λ m. f a ∷ m) (replicate_viewed f a n k))
