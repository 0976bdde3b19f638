-- `answers::end_calls` meets its contract: slot by slot.
use mathlib.Core.Path.{◌≡◌}
use Prim.Native.Nat.{◌≤◌}
use Rattle.views.specs.Changes.{ended_calls}
use Rattle.answers.specs.Answers.{written}
use Rattle.answers.proofs.end_calls.Given as goal

abbrev pub invariant-loop-bucket : goal.invariant-loop-bucket
invariant-loop-bucket l = (l.count ≤ l.bucket) × (written l.answers l.count ≡ ended_calls l.slots l.server l.bucket l.initial.answers)
