-- Laws of `each`.
use mathlib.Core.Path.{◌≡◌, refl, ap, ap₂, ◌∙◌}
use mathlib.Core.Logic.{◌≢◌}
use mathlib.Core.List.{[], ◌∷◌, ◌++◌, map}
use Prim.Native.Nat.{ℕ, zero, suc, ◌<◌}
use native.Mathlib.Omega.{arith}
use lib.ListN.{length, get_or, set}
use Rattle.views.specs.Memory.{each}

module _ {A : Type 0} where
  pub length_each : (n : ℕ) (f : ℕ → A) → length (each n f) ≡ n
  unfolding each
  length_each zero f = refl
  length_each (suc n) f = omega (arith, length_each n (λ i. f (suc i)))

  pub get_or_each : (n : ℕ) (f : ℕ → A) (i : ℕ) (d : A) → i < n → get_or (each n f) i d ≡ f i
  unfolding each
  get_or_each zero f i d h = absurd (omega arith)
  get_or_each (suc n) f zero d h = refl
  get_or_each (suc n) f (suc i) d h = get_or_each n (λ j. f (suc j)) i d (omega arith)

  pub each_same : (n : ℕ) (f g : ℕ → A) → ((i : ℕ) → i < n → f i ≡ g i) → each n f ≡ each n g
  unfolding each
  each_same zero f g h = refl
  each_same (suc n) f g h = ap₂ (λ a l. a ∷ l) (h 0 (omega arith)) (each_same n (λ i. f (suc i)) (λ i. g (suc i)) (λ i k. h (suc i) (omega arith)))

  pub each_last : (n : ℕ) (f : ℕ → A) → each (suc n) f ≡ each n f ++ (f n ∷ [])
  unfolding each
  each_last zero f = refl
  each_last (suc n) f = ap (λ r. f 0 ∷ r) (each_last n (λ i. f (suc i)))

  -- functions that are the same but at i
  pub each_set : (n : ℕ) (f g : ℕ → A) (i : ℕ) (v : A) → i < n → g i ≡ v → ((j : ℕ) → j < n → j ≢ i → g j ≡ f j) → each n g ≡ set (each n f) i v
  unfolding each
  each_set zero f g i v h e k = absurd (omega arith)
  each_set (suc n) f g zero v h e k =
      ap₂ (λ a l. a ∷ l) e (each_same n (λ i. g (suc i)) (λ i. f (suc i)) (λ i u. k (suc i) (omega arith) (λ z. omega arith)))
  each_set (suc n) f g (suc i) v h e k =
      ap₂ (λ a l. a ∷ l) (k 0 (omega arith) (λ z. omega arith))
      (each_set n (λ j. f (suc j)) (λ j. g (suc j)) i v (omega arith) e (λ j u w. k (suc j) (omega arith) (λ z. w (omega arith))))

pub map_each : {A B : Type 0} (n : ℕ) (f : ℕ → A) (g : A → B) → map g (each n f) ≡ each n (λ i. g (f i))
unfolding each
map_each zero f g = refl
map_each (suc n) f g = ap (λ l. g (f 0) ∷ l) (map_each n (λ i. f (suc i)) g)

-- ---- a part of each

module _ {A B : Type 0} (n : ℕ) (f : ℕ → A) (g : A → B) where
  pub length_parts : length (map g (each n f)) ≡ n
  length_parts = ap length (map_each n f g) ∙ length_each n (λ i. g (f i))

  pub get_or_parts : (i : ℕ) (d : B) → i < n → get_or (map g (each n f)) i d ≡ g (f i)
  get_or_parts i d h = ap (λ l. get_or l i d) (map_each n f g) ∙ get_or_each n (λ i. g (f i)) i d h
