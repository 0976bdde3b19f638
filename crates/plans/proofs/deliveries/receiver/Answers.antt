-- `deliveries::receiver` meets its contract: the slot is that of the step's server and bucket.
use Rattle.plans.proofs.deliveries.receiver.Goals as goal

pub returns : goal.returns
returns c = rw (← c.slot_of-slot.ensures) c.load_local.ensures
