-- `fresh::zero_slots` meets its contract: the region is lent as a part.
use Rattle.machine_carrying.proofs.Zeros.{slots_zeroed}
use Rattle.machine_carrying.proofs.fresh.zero_slots.Goals as goal

pub returns : goal.returns
returns c = slots_zeroed c.args.words.now _ c.told-words c.fill.ensures.after
