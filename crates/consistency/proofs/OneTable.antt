-- A version holds one table: two writes at one version of one bucket are the same write, and none is at the first version.
use mathlib.Core.Path.{◌≡◌, sym, ◌∙◌, ap}
use mathlib.Core.List.{List}
use Prim.Native.Nat.{ℕ}
use native.Mathlib.Omega.{arith}
use Rattle.entries.specs.Entries.{Entry}
use Rattle.model.specs.Cluster.{Version}
use Rattle.consistency.proofs.Log.{Log}
use Rattle.consistency.proofs.Claims.{Holds, first, later}
use Rattle.consistency.proofs.Invariant.{LogOk}

module _ {n now taken b : ℕ} {log : Log} (ok : LogOk n now taken log) where
  pub one_table : {x : Version} {t u : List Entry} → Holds log b x t → Holds log b x u → t ≡ u
  one_table (first e f) (first g k) = f ∙ sym k
  one_table (first e f) (later w m i g k) = absurd (omega (arith, ap (λ v. v.election) (g ∙ e), (ok.writes.positive w m).0))
  one_table (later w m i e f) (first g k) = absurd (omega (arith, ap (λ v. v.election) (e ∙ g), (ok.writes.positive w m).0))
  one_table (later w m i e f) (later y o j g k) =
      sym f ∙ ap (λ z. z.table) (ok.writes.unique w y m o (i ∙ sym j) (e ∙ sym g)) ∙ k
