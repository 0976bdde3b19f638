-- `carrying::carry_out` meets its contract: the place of the message, the working content, then the rest.
use Rattle.machine.proofs.Assembling.{carried_out}
use Rattle.machine.proofs.carrying.carry_out.Goals as goal

pub returns-clause-carries : goal.returns-clause-carries
returns-clause-carries c =
    record {
      is = λ f. carried_out _ _ _ _ _ _ _ _ _ _ _ _ f _ _ _ _ _ _ _ _ _ _ _ _ _ _ c.slot_of-slot.ensures c.place_of-place.ensures.0 c.fill_work.ensures c.carry_on.ensures.carries;
    }
