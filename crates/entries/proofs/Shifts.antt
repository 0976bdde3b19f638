-- An element put into an array, or taken out of it; and what that is to the part in use.
use mathlib.Core.Path.{◌≡◌, refl, sym, ap, ◌∙◌}
use mathlib.Core.List.{List, [], ◌∷◌, ◌++◌, map, map-append}
use Prim.Native.Nat.{ℕ, zero, suc, ◌≤◌, ◌<◌, ◌+◌, ◌-◌}
use native.Mathlib.Omega.{arith}
use lib.ListN.{length, take, drop, set}
use lib.Seq.{take-append-add, take-take, take-add, drop_at, length-take-le, take-set-lt}

-- ---- the part in use

-- what is left of the first p + m without the first p
pub drop-take_lem : {A : Type 0} (p m : ℕ) (l : List A) → p ≤ length l → drop p (take (p + m) l) ≡ take m (drop p l)
drop-take_lem p m l h = ap (drop p) (take-add p m l) ∙ drop_at (take p l) (take m (drop p l)) p (length-take-le p l h)

pub map-take_lem : {A B : Type 0} (f : A → B) (n : ℕ) (l : List A) → map f (take n l) ≡ take n (map f l)
map-take_lem f zero l = refl
map-take_lem f (suc n) [] = refl
map-take_lem f (suc n) (a ∷ l) = ap (λ r. f a ∷ r) (map-take_lem f n l)

pub map-drop_lem : {A B : Type 0} (f : A → B) (n : ℕ) (l : List A) → map f (drop n l) ≡ drop n (map f l)
map-drop_lem f zero l = refl
map-drop_lem f (suc n) [] = refl
map-drop_lem f (suc n) (a ∷ l) = map-drop_lem f n l

pub map-set_lem : {A B : Type 0} (f : A → B) (l : List A) (i : ℕ) (a : A) → map f (set l i a) ≡ set (map f l) i (f a)
map-set_lem f [] i a = refl
map-set_lem f (b ∷ l) zero a = refl
map-set_lem f (b ∷ l) (suc i) a = ap (λ r. f b ∷ r) (map-set_lem f l i a)

-- the first p + 1 + m of a list with one put in at p, by the first p + m of the list
pub used_inserted : {A : Type 0} (p m : ℕ) (l : List A) (a : A) → p ≤ length l → take (p + suc m) (take p l ++ (a ∷ drop p l)) ≡ take p (take (p + m) l) ++ (a ∷ drop p (take (p + m) l))
used_inserted p m l a h =
    let n = length-take-le p l h in
    ap (λ k. take (k + suc m) (take p l ++ (a ∷ drop p l))) (sym n)
    ∙ take-append-add (take p l) (a ∷ drop p l) (suc m)
    ∙ rw (take-take p (p + m) l (omega arith), drop-take_lem p m l h)

-- the first p + m of a list with that at p taken out, by the first p + 1 + m of the list
pub used_removed : {A : Type 0} (p m : ℕ) (l : List A) → p + 1 ≤ length l → take (p + m) (take p l ++ drop (p + 1) l) ≡ take p (take (p + 1 + m) l) ++ drop (p + 1) (take (p + 1 + m) l)
used_removed p m l h =
    let n = length-take-le p l (omega arith) in
    ap (λ k. take (k + m) (take p l ++ drop (p + 1) l)) (sym n)
    ∙ take-append-add (take p l) (drop (p + 1) l) m
    ∙ rw (take-take p (p + 1 + m) l (omega arith), drop-take_lem (p + 1) m l h)

-- ---- the entries in use of an array, after a change of the array

module _ {A B : Type 0} (f : A → B) (top n p : ℕ) (l r : List A) where
  pub part_replaced : (s : A) → p < n → take n (map f (set l p s)) ≡ set (take n (map f l)) p (f s)
  part_replaced s h = ap (take n) (map-set_lem f l p s) ∙ take-set-lt n (map f l) p (f s) h

  pub part_inserted : (s : A) → p ≤ n → n < top → length l ≡ top → r ≡ take top (take p l ++ (s ∷ drop p l)) → take (n + 1) (map f r) ≡ take p (take n (map f l)) ++ (f s ∷ drop p (take n (map f l)))
  part_inserted s h k e q =
      let m = n - p in
      let more : n + 1 ≡ p + suc m = omega arith in
      let all : p + m ≡ n = omega arith in
      sym (map-take_lem f (n + 1) r)
      ∙ ap (λ x. map f (take (n + 1) x)) q
      ∙ ap (map f) (take-take (n + 1) top (take p l ++ (s ∷ drop p l)) (omega arith) ∙ ap (λ x. take x (take p l ++ (s ∷ drop p l))) more ∙ used_inserted p m l s (omega arith))
      ∙ map-append f (take p (take (p + m) l)) (s ∷ drop p (take (p + m) l))
      ∙ rw (all, map-take_lem f p (take n l), map-drop_lem f p (take n l), map-take_lem f n l)

  pub part_removed : p < n → n ≤ top + 1 → length l ≡ top + 1 → take top r ≡ take p l ++ drop (p + 1) l → take (n - 1) (map f r) ≡ take p (take n (map f l)) ++ drop (p + 1) (take n (map f l))
  part_removed h k e q =
      let m = n - 1 - p in
      let less : n - 1 ≡ p + m = omega arith in
      let all : p + 1 + m ≡ n = omega arith in
      sym (map-take_lem f (n - 1) r)
      ∙ ap (map f)
      (sym (take-take (n - 1) top r (omega arith)) ∙ ap (take (n - 1)) q ∙ ap (λ x. take x (take p l ++ drop (p + 1) l)) less ∙ used_removed p m l (omega arith))
      ∙ map-append f (take p (take (p + 1 + m) l)) (drop (p + 1) (take (p + 1 + m) l))
      ∙ rw (all, map-take_lem f p (take n l), map-drop_lem f (p + 1) (take n l), map-take_lem f n l)
