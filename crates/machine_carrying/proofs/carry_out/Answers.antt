-- `machine_carrying::carry_out` meets its contract: the place of the message, the working content, then the rest.
use Rattle.machine_carrying.proofs.Parts.{carried_out}
use Rattle.machine_carrying.proofs.carry_out.Goals as goal

pub returns : goal.returns
returns c =
    carried_out c.args.cluster c.args.step c.args.next _ _ _ _ _ _ _ _ c.place_of-place.ensures.0 (rw (← c.slot_of-slot.ensures, c.fill_work.ensures)) c.carry_on.ensures
