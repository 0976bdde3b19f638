-- `fresh::zero_heads` meets its contract: the region is lent as a part.
use Rattle.machine_carrying.proofs.Zeros.{heads_zeroed}
use Rattle.machine_carrying.proofs.fresh.zero_heads.Goals as goal

pub returns : goal.returns
returns c = heads_zeroed c.args.words.now _ c.told-words c.fill.ensures.after
