-- Laws of `All`, of the lists that are made of one; and a map over equal elements.
use mathlib.Core.Path.{◌≡◌, refl, ap, subst⁻¹}
use mathlib.Core.List.{List, ◌∷◌, ◌++◌, map, Memᴰ}
use Prim.Native.Nat.{ℕ, zero, suc, ◌<◌}
use native.Mathlib.Nat.{le_of_suc-le-suc, not-suc-le-zero}
use lib.ListN.{length, get_or, set, take, drop, replicate}
use Rattle.limits.specs.Lists.{All, nil, cons}

module _ {A : Type 0} {P : A → Type 0} where
  pub all_head : {x : A} {l : List A} → All P (x ∷ l) → P x
  all_head (cons p h) = p

  pub all_tail : {x : A} {l : List A} → All P (x ∷ l) → All P l
  all_tail (cons p h) = h

  pub all_imply : {Q : A → Type 0} → ((x : A) → P x → Q x) → {l : List A} → All P l → All Q l
  all_imply f nil = nil
  all_imply f (cons {x = x} p h) = cons (f x p) (all_imply f h)

  pub all_append : {l m : List A} → All P l → All P m → All P (l ++ m)
  all_append nil k = k
  all_append (cons p h) k = cons p (all_append h k)

  pub all_take : (i : ℕ) {l : List A} → All P l → All P (take i l)
  all_take zero h = nil
  all_take (suc i) nil = nil
  all_take (suc i) (cons p h) = cons p (all_take i h)

  pub all_drop : (i : ℕ) {l : List A} → All P l → All P (drop i l)
  all_drop zero h = h
  all_drop (suc i) nil = nil
  all_drop (suc i) (cons p h) = all_drop i h

  pub all_set : {l : List A} (i : ℕ) {a : A} → All P l → P a → All P (set l i a)
  all_set i nil q = nil
  all_set zero (cons p h) q = cons q h
  all_set (suc i) (cons p h) q = cons p (all_set i h q)

  pub all_at : {l : List A} (i : ℕ) (d : A) → i < length l → All P l → P (get_or l i d)
  all_at i d k nil = absurd (not-suc-le-zero k)
  all_at zero d k (cons p h) = p
  all_at (suc i) d k (cons p h) = all_at i d (le_of_suc-le-suc k) h

  pub all_in : {x : A} {l : List A} → Memᴰ x l → All P l → P x
  all_in (Memᴰ.head e) (cons p h) = subst⁻¹ P e p
  all_in (Memᴰ.tail m) (cons p h) = all_in m h

  pub all_replicate : (n : ℕ) (a : A) → P a → All P (replicate n a)
  all_replicate zero a p = nil
  all_replicate (suc n) a p = cons p (all_replicate n a p)

pub all_map : {A B : Type 0} {P : B → Type 0} {Q : A → Type 0} (f : A → B) → ((x : A) → Q x → P (f x)) → {l : List A} → All Q l →
    All P (map f l)
all_map f g nil = nil
all_map f g (cons {x = x} p h) = cons (g x p) (all_map f g h)

pub map-replicate_lem : {A B : Type 0} (f : A → B) (n : ℕ) (a : A) → map f (replicate n a) ≡ replicate n (f a)
map-replicate_lem f zero a = refl
map-replicate_lem f (suc n) a = ap (λ l. f a ∷ l) (map-replicate_lem f n a)
