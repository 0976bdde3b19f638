-- `machine_answers::end_calls` meets its contract: slot by slot.
use mathlib.Core.Path.{◌≡◌}
use Prim.Native.Nat.{◌≤◌}
use Rattle.memory_regions.specs.Regions.{regions}
use Rattle.views.specs.Changes.{ended_calls}
use Rattle.machine_answers.specs.Answers.{written}
use Rattle.machine_answers.proofs.end_calls.Given as goal

abbrev pub invariant-loop-bucket : goal.invariant-loop-bucket
invariant-loop-bucket l = (l.count ≤ l.bucket) × (written l.answers l.count ≡ ended_calls (regions l.words).slots l.server l.bucket l.initial.answers)
