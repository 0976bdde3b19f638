-- The order of byte lists: it is reflexive, reversed by Greater, transitive, and Equal only of equal lists.
use mathlib.Core.Path.{◌≡◌, refl, sym, ◌∙◌}
use mathlib.Core.List.{List, [], ◌∷◌}
use Prim.Native.Nat.{ℕ, ◌≤◌, ◌<◌}
use native.Mathlib.Omega.{arith}
use native.Mathlib.Nat.{le_refl, le_antisymm}
use native.Mathlib.Decide.{dec_lt}
use borrow.Author.Tests.{lt-ltb, le-ltb}
use Rattle.std.specs.Cmp.{nat_cmp_is}
use Rattle.std.specs.Cmp.Lexicographic.{slice_cmp}
use Rattle.std.specs.Ordering.{nat_cmp}
use Rattle.std.specs.declared.cmp.Ordering.TheVariants.{Less, Equal, Greater}
use Rattle.entries.specs.Entries.{order}

-- what the order of two lists that begin with a and b goes by
pub order_less : (a b : ℕ) (l m : List ℕ) → a < b → order (a ∷ l) (b ∷ m) ≡ Less
unfolding order
order_less a b l m h = rw (order, lt-ltb a b h)

pub order_more : (a b : ℕ) (l m : List ℕ) → b < a → order (a ∷ l) (b ∷ m) ≡ Greater
unfolding order
order_more a b l m h =
    let k : b ≤ a = omega arith in
    rw (order, le-ltb a b k, lt-ltb b a h)

pub order_next : (a b : ℕ) (l m : List ℕ) → a ≤ b → b ≤ a → order (a ∷ l) (b ∷ m) ≡ order l m
unfolding order
order_next a b l m h k = rw (order, le-ltb a b k, le-ltb b a h)

-- how two bytes may stand to each other
data Bytes (a b : ℕ) : Type 0 where
  less : a < b → Bytes a b
  more : b < a → Bytes a b
  equal : a ≤ b → b ≤ a → Bytes a b

bytes : (a b : ℕ) → Bytes a b
bytes a b = go (dec_lt a b) (dec_lt b a)
  where
    go : Dec (a < b) → Dec (b < a) → Bytes a b
    go (yes h) d = less h
    go (no h) (yes k) = more k
    go (no h) (no k) = equal (omega arith) (omega arith)

-- no list stands before, or after, itself
pub order_refl : (l : List ℕ) → order l l ≡ Equal
unfolding order
order_refl [] = refl
order_refl (a ∷ l) = order_next a a l l (le_refl a) (le_refl a) ∙ order_refl l

-- lists that are the same in the order are equal
pub order_same : (l m : List ℕ) → order l m ≡ Equal → l ≡ m
unfolding order
order_same [] [] h = refl
order_same [] (b ∷ m) h = cc
order_same (a ∷ l) [] h = cc
order_same (a ∷ l) (b ∷ m) h = go (bytes a b) (order_same l m)
  where
    go : Bytes a b → (order l m ≡ Equal → l ≡ m) → a ∷ l ≡ b ∷ m
    go (less k) ih = cc (order_less a b l m k)
    go (more k) ih = cc (order_more a b l m k)
    go (equal h₁ h₂) ih = cc (ih (sym (order_next a b l m h₁ h₂) ∙ h), le_antisymm h₁ h₂)

-- the order seen from the other side
pub after_before : (l m : List ℕ) → order l m ≡ Greater → order m l ≡ Less
unfolding order
after_before [] [] h = cc
after_before [] (b ∷ m) h = cc
after_before (a ∷ l) [] h = refl
after_before (a ∷ l) (b ∷ m) h = go (bytes a b) (after_before l m)
  where
    go : Bytes a b → (order l m ≡ Greater → order m l ≡ Less) → order (b ∷ m) (a ∷ l) ≡ Less
    go (less k) ih = cc (order_less a b l m k)
    go (more k) ih = order_less b a m l k
    go (equal h₁ h₂) ih = order_next b a m l h₂ h₁ ∙ ih (sym (order_next a b l m h₁ h₂) ∙ h)

pub before_trans : (l m n : List ℕ) → order l m ≡ Less → order m n ≡ Less → order l n ≡ Less
unfolding order
before_trans [] [] n h k = cc
before_trans [] (b ∷ m) [] h k = cc
before_trans [] (b ∷ m) (c ∷ n) h k = refl
before_trans (a ∷ l) [] n h k = cc
before_trans (a ∷ l) (b ∷ m) [] h k = cc
before_trans (a ∷ l) (b ∷ m) (c ∷ n) h k = go (bytes a b) (bytes b c) (before_trans l m n)
  where
    go : Bytes a b → Bytes b c → (order l m ≡ Less → order m n ≡ Less → order l n ≡ Less) → order (a ∷ l) (c ∷ n) ≡ Less
    go (less p) (less q) ih = order_less a c l n (omega arith)
    go (less p) (equal q₁ q₂) ih = order_less a c l n (omega arith)
    go (less p) (more q) ih = cc (order_more b c m n q)
    go (more p) (less q) ih = cc (order_more a b l m p)
    go (more p) (equal q₁ q₂) ih = cc (order_more a b l m p)
    go (more p) (more q) ih = cc (order_more a b l m p)
    go (equal p₁ p₂) (less q) ih = order_less a c l n (omega arith)
    go (equal p₁ p₂) (equal q₁ q₂) ih =
        order_next a c l n (omega arith) (omega arith)
        ∙ ih (sym (order_next a b l m p₁ p₂) ∙ h) (sym (order_next b c m n q₁ q₂) ∙ k)
    go (equal p₁ p₂) (more q) ih = cc (order_more b c m n q)

-- std's order of slices is this one
pub order_cmp : (l m : List ℕ) → slice_cmp nat_cmp l m ≡ order l m
unfolding order
order_cmp [] [] = refl
order_cmp [] (b ∷ m) = refl
order_cmp (a ∷ l) [] = refl
order_cmp (a ∷ l) (b ∷ m) = go (bytes a b) (order_cmp l m)
  where
    go : Bytes a b → slice_cmp nat_cmp l m ≡ order l m → slice_cmp nat_cmp (a ∷ l) (b ∷ m) ≡ order (a ∷ l) (b ∷ m)
    go (less k) ih = cc (order_less a b l m k, nat_cmp_is a b Less k)
    go (more k) ih = cc (order_more a b l m k, nat_cmp_is a b Greater k)
    go (equal h₁ h₂) ih = cc (order_next a b l m h₁ h₂, nat_cmp_is a b Equal (le_antisymm h₁ h₂))
