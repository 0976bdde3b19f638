-- The laws of the order of versions.
use mathlib.Core.Path.{◌≡◌, ap}
use mathlib.Core.Logic.{◌⊎◌, inl, inr}
use Prim.Native.Nat.{ℕ, zero, suc, ◌≤◌, ◌<◌}
use native.Mathlib.Omega.{arith}
use native.Mathlib.Decide.{ℕ_discrete, dec_le}
use Rattle.history.specs.Version.{Version, version, ◌≼◌, ◌≺◌}

pub le_refl : (v : Version) → v ≼ v
le_refl v = omega arith

pub le_trans : {u v w : Version} → u ≼ v → v ≼ w → u ≼ w
le_trans h k = record { elections = omega arith; counters = λ l. omega (arith, h.counters (omega arith), k.counters (omega arith)) }

pub le_antisym : {v w : Version} → v ≼ w → w ≼ v → v ≡ w
le_antisym {v} {w} h k =
    let e : v.election ≡ w.election = omega arith in
    let c : v.counter ≡ w.counter = omega (arith, h.counters (omega arith), k.counters (omega arith)) in
    λ i. version (e i) (c i)

pub le_of_lt : {v w : Version} → v ≺ w → v ≼ w
le_of_lt h = record { elections = h.elections; counters = λ l. omega (arith, h.counters l) }

pub lt_of_le_lt : {u v w : Version} → u ≼ v → v ≺ w → u ≺ w
lt_of_le_lt h k = record { elections = omega arith; counters = λ l. omega (arith, h.counters (omega arith), k.counters (omega arith)) }

pub lt_not_le : {v w : Version} → v ≺ w → w ≼ v → ⊥
lt_not_le h k = omega (arith, h.counters (omega arith), k.counters (omega arith))

pub le_or_lt : (v w : Version) → (v ≼ w) ⊎ (w ≺ v)
le_or_lt v w = go (dec_le v.election w.election) (dec_le w.election v.election) (dec_le v.counter w.counter)
  where
    go : Dec (v.election ≤ w.election) → Dec (w.election ≤ v.election) → Dec (v.counter ≤ w.counter) → (v ≼ w) ⊎ (w ≺ v)
    go (no a) b d = inr (omega arith)
    go (yes a) (no b) d = inl (omega arith)
    go (yes a) (yes b) (yes d) = inl (omega arith)
    go (yes a) (yes b) (no d) = inr (omega arith)

-- before: an earlier election, or the same one and an earlier counter
pub lt_cases : {v w : Version} → v ≺ w → (v.election < w.election) ⊎ ((v.election ≡ w.election) × (v.counter < w.counter))
lt_cases {v} {w} h = elim (dec_le w.election v.election) [ yes l ↦ inr (omega arith, h.counters l) | no l ↦ inl (omega arith) ]

pub same? : (v w : Version) → Dec (v ≡ w)
same? v w = go (ℕ_discrete v.election w.election) (ℕ_discrete v.counter w.counter)
  where
    go : Dec (v.election ≡ w.election) → Dec (v.counter ≡ w.counter) → Dec (v ≡ w)
    go (yes a) (yes b) = yes (λ i. version (a i) (b i))
    go (no a) d = no (λ e. a (ap (λ u. u.election) e))
    go (yes a) (no b) = no (λ e. b (ap (λ u. u.counter) e))

-- what passes from all versions before one to that one holds of every version
module _ (P : Version → Type 0) (step : (v : Version) → ((u : Version) → u ≺ v → P u) → P v) where
  in_election : (e k : ℕ) → ((u : Version) → u.election < e → P u) → (v : Version) → v.election ≤ e → v.counter < k → P v
  in_election e zero f v h l = absurd (omega arith)
  in_election e (suc k) f v h l =
      step v (λ u b. elim (lt_cases b) [ inl a ↦ f u (omega arith) | inr a ↦ in_election e k f u (omega arith) (omega arith) ])

  below_election : (e : ℕ) (v : Version) → v.election < e → P v
  below_election zero v h = absurd (omega arith)
  below_election (suc e) v h = in_election e (suc v.counter) (below_election e) v (omega arith) (omega arith)

  pub lt_induction : (v : Version) → P v
  lt_induction v = below_election (suc v.election) v (omega arith)
