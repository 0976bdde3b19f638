-- `locals::clear_slots` meets its contract: slot by slot.
use mathlib.Core.Path.{◌≡◌}
use Rattle.memory_regions.specs.Regions.{regions, with_slots}
use Rattle.views.specs.Changes.{cleared_slots}
use Rattle.machine_steps.proofs.locals.clear_slots.Given as goal

abbrev pub invariant-loop-bucket : goal.invariant-loop-bucket
invariant-loop-bucket l = regions l.words ≡ with_slots (regions l.initial.words) (cleared_slots (regions l.initial.words).slots l.server l.bucket)
