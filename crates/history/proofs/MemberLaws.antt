-- The laws of membership.
use Prim.Native.Nat.{ℕ}
use native.Mathlib.Omega.{arith}
use mathlib.Core.Path.{◌≡◌, refl, subst⁻¹}
use mathlib.Core.Logic.{inl, inr}
use mathlib.Core.List.Memᴰ
use mathlib.Core.List.{List, [], ◌∷◌, ◌++◌}
use Rattle.history.specs.Members.{◌∈◌}

abbrev pub first_in : {A : Type 0} {a : A} {l : List A} → a ∈ (a ∷ l)
first_in = Memᴰ.head refl

pub none_in : {A P : Type 0} {a : A} → a ∈ [] → P
none_in m = elim m [ ]

-- what holds of the first and of all the others holds of each
pub each_cons : {A : Type 0} {P : A → Type 0} {x : A} {l : List A} → P x → ((a : A) → a ∈ l → P a) → (a : A) → a ∈ (x ∷ l) → P a
each_cons {P = P} p f a (Memᴰ.head e) = subst⁻¹ P e p
each_cons p f a (Memᴰ.tail m) = f a m

pub each_append : {A : Type 0} {P : A → Type 0} (k : List A) {l : List A} → ((a : A) → a ∈ k → P a) → ((a : A) → a ∈ l → P a) → (a : A) → a ∈ (k ++ l) → P a
each_append k f g a m = elim (Memᴰ.append_cases k m) [ inl h ↦ f a h | inr h ↦ g a h ]

-- congruence closure proves 0 ≡ 1 where two constructors are said to be equal
pub clash : {P : Type 0} → ◌≡◌ {A = ℕ} 0 1 → P
clash e = absurd (omega arith)
