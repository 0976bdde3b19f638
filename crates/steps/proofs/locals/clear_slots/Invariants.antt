-- `locals::clear_slots` meets its contract: slot by slot.
use mathlib.Core.Path.{◌≡◌}
use Rattle.views.specs.Changes.{cleared_slots}
use Rattle.steps.proofs.locals.clear_slots.Given as goal

abbrev pub invariant-loop-bucket : goal.invariant-loop-bucket
invariant-loop-bucket l = l.slots ≡ cleared_slots l.initial.slots l.server l.bucket
