-- How many messages a step sends at most.
use mathlib.Core.Bool.{Bool, true, false}
use native.Mathlib.Omega.{arith}
use Prim.Native.Nat.{ℕ, ◌-◌, ◌≤◌}
use lib.Dec.{eqb}
use Rattle.server.specs.Views.{is_broadcast}
use Rattle.refusals.specs.Refusals.{send_count}

few : (n : ℕ) (t u : Bool) → n ≤ 7 → elim t [ true ↦ 0 | false ↦ elim u [ true ↦ n - 1 | false ↦ 1 ] ] ≤ 7
few n true u h = omega arith
few n false true h = omega arith
few n false false h = omega arith

-- among at most seven servers a step sends at most seven messages
pub few_sent : (n kind : ℕ) → n ≤ 7 → send_count n kind ≤ 7
unfolding send_count
few_sent n kind h = few n (eqb kind 0) (is_broadcast kind) h
