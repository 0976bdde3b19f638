-- The machine's test of versions is their order.
use mathlib.Core.Path.{◌≡◌, refl}
use mathlib.Core.Bool.{Bool, true, false}
use Prim.Native.Nat.{◌≤◌, ◌<◌}
use native.Mathlib.Omega.{arith}
use lib.Dec.{ltb, eqb}
use borrow.Author.Tests.{ltb-true, ltb-false, eqb-true, eqb-false}
use Rattle.model.specs.Cluster.{Version, above}
use Rattle.history.specs.Version.{◌≼◌, ◌≺◌}
use Rattle.history.proofs.VersionLaws.{lt_not_le}

pub above_lt : (v w : Version) → above v w ≡ true → w ≺ v
unfolding above
above_lt v w = go (eqb v.election w.election) refl
  where
    go : (t : Bool) → eqb v.election w.election ≡ t
        → elim t as (λ _. Bool) [ true ↦ ltb w.counter v.counter | false ↦ ltb w.election v.election ] ≡ true → w ≺ v
    go true e h = let i : v.election ≡ w.election = eqb-true _ _ e in record { elections = omega arith; counters = λ l. ltb-true _ _ h }
    go false e h = let i : w.election < v.election = ltb-true _ _ h in record { elections = omega arith; counters = λ l. absurd (omega arith) }

pub above_not : (v w : Version) → above v w ≡ false → v ≼ w
unfolding above
above_not v w = go (eqb v.election w.election) refl
  where
    go : (t : Bool) → eqb v.election w.election ≡ t
        → elim t as (λ _. Bool) [ true ↦ ltb w.counter v.counter | false ↦ ltb w.election v.election ] ≡ false → v ≼ w
    go true e h = let i : v.election ≡ w.election = eqb-true _ _ e in record { elections = omega arith; counters = λ l. ltb-false _ _ h }
    go false e h =
        let i : v.election ≤ w.election = ltb-false _ _ h in
        record { elections = i; counters = λ (l : w.election ≤ v.election). absurd (eqb-false v.election w.election e (omega arith)) }

pub lt_above : (v w : Version) → w ≺ v → above v w ≡ true
lt_above v w h = go (above v w) refl
  where
    go : (t : Bool) → above v w ≡ t → above v w ≡ true
    go true e = e
    go false e = let k = above_not v w e in absurd (lt_not_le h k)
