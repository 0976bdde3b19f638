-- `fresh::zero_copies` meets its contract: the region is lent as a part.
use Rattle.machine_carrying.proofs.Zeros.{copies_zeroed}
use Rattle.machine_carrying.proofs.fresh.zero_copies.Goals as goal

pub returns : goal.returns
returns c = copies_zeroed c.args.bytes.now _ c.told-bytes c.fill.ensures.after
