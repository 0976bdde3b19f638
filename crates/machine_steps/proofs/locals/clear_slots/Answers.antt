-- `locals::clear_slots` meets its contract: slot by slot.
use mathlib.Core.Path.{refl}
use Rattle.machine_steps.proofs.Loops.{cleared_next}
use Rattle.memory_regions.specs.Regions.{regions}
use Rattle.views.specs.Changes.{cleared_slots}
use Rattle.machine_steps.proofs.locals.clear_slots.Goals as goal

pub loop-bucket-init : goal.loop-bucket-init
unfolding cleared_slots
loop-bucket-init c = refl

pub loop-bucket-preserved : goal.loop-bucket-preserved
loop-bucket-preserved c =
    let slots = (regions c.args.words.now).slots in
    rw (c.clear_slot.ensures, c.slot_of.ensures, c.loop-bucket.invariant, cleared_next slots c.args.server c.loop-bucket.bucket)
