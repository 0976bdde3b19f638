-- `carrying::take` meets its contract: the words lie at the step's slot.
use Rattle.machine.proofs.carrying.take.Goals as goal

pub returns : goal.returns
returns c = record { numbers = rw (← c.slot_of-slot.ensures) c.store_words.ensures.0; bytes = rw (← c.slot_of-slot.ensures) c.store_words.ensures.1 }
