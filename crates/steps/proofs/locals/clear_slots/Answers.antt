-- `locals::clear_slots` meets its contract: slot by slot.
use mathlib.Core.Path.{refl, sym, ap, ◌∙◌}
use Rattle.steps.proofs.Loops.{cleared_next}
use Rattle.memory.specs.Layout.{slot_of}
use Rattle.views.specs.Changes.{cleared_slot, cleared_slots}
use Rattle.steps.proofs.locals.clear_slots.Goals as goal

pub loop-bucket-init : goal.loop-bucket-init
unfolding cleared_slots
loop-bucket-init c = refl

pub loop-bucket-preserved : goal.loop-bucket-preserved
loop-bucket-preserved c =
    c.clear_slot.ensures
    ∙ ap (cleared_slot _) c.slot_of.ensures
    ∙ ap (λ l. cleared_slot l (slot_of c.args.server c.loop-bucket.bucket)) c.loop-bucket.invariant
    ∙ sym (cleared_next c.args.slots.now c.args.server c.loop-bucket.bucket)
