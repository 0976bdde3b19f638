-- `machine_carrying::store_call` meets its contract: the words lie at the step's slot.
use Rattle.runs.specs.Runs.{taken}
use Rattle.machine_carrying.proofs.store_call.Goals as goal

pub returns : goal.returns
unfolding taken
returns c = rw (← c.slot_of-slot.ensures, c.store_words.ensures.numbers, c.store_words.ensures.texts)
