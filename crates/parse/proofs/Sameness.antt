-- Two words are the same, or not.
use mathlib.Core.Path.{◌≡◌, refl}
use mathlib.Core.List.{List}
use mathlib.Core.Bool.{Bool, true, false}
use Prim.Native.Nat.{ℕ}
use lib.Dec.{eqb}
use Rattle.std.specs.Bool.{Decides}
use Rattle.std.specs.Cmp.Lexicographic.{pointwise}
use Rattle.std.specs.declared.cmp.Ordering.{Ordering}
use Rattle.std.specs.declared.cmp.Ordering.TheVariants.{Less, Equal, Greater}
use Rattle.std.proofs.lemmas.Slice.Eq.{bytes_eq-Decides}
use Rattle.entries.specs.Entries.{order}
use Rattle.entries.proofs.Comparison.{order_refl, order_same}
use Rattle.table.specs.Form.{same_bytes}

pub same_equal : (l m : List ℕ) → l ≡ m → same_bytes l m ≡ true
unfolding same_bytes
same_equal l m e = rw (e, same_bytes, order_refl m)

pub same_different : (l m : List ℕ) → (l ≡ m → ⊥) → same_bytes l m ≡ false
same_different l m h = go (order l m) refl
  where
    go : (o : Ordering) → order l m ≡ o → same_bytes l m ≡ false
    go Less e = unfold same_bytes in rw (same_bytes, e)
    go Equal e = absurd (h (order_same l m e))
    go Greater e = unfold same_bytes in rw (same_bytes, e)

pub same_true : (l m : List ℕ) → same_bytes l m ≡ true → l ≡ m
unfolding same_bytes
same_true l m h = go (order l m) refl h
  where
    go : (o : Ordering) → order l m ≡ o → elim o [ Less ↦ false | Equal ↦ true | Greater ↦ false ] ≡ true → l ≡ m
    go Less e k = cc
    go Equal e k = order_same l m e
    go Greater e k = cc

-- so it is what `==` on slices answers
pub same_pointwise : (l m : List ℕ) → same_bytes l m ≡ pointwise eqb l m
same_pointwise l m = go (same_bytes l m) refl (pointwise eqb l m) refl
  where
    means : Decides (pointwise eqb l m) (l ≡ m)
    means = bytes_eq-Decides l m

    go : (s : Bool) → same_bytes l m ≡ s → (t : Bool) → pointwise eqb l m ≡ t → same_bytes l m ≡ pointwise eqb l m
    go true e true f = cc
    go true e false f = absurd (cc (means.1 (same_true l m e)))
    go false e true f = absurd (cc (same_equal l m (means.0 f)))
    go false e false f = cc
