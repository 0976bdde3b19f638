-- `fresh::clear` meets its contract: array by array.
use Rattle.machine.proofs.Zeros.{zeroed}
use Rattle.machine.proofs.fresh.clear.Goals as goal

pub returns : goal.returns
returns c = (zeroed c.told-heads c.fill.ensures.after, (zeroed c.told-slots c.fill-2.ensures.after, zeroed c.told-copies c.fill-3.ensures.after))
