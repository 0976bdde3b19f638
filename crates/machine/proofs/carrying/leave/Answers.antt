-- `carrying::leave` meets its contract: a copy leaves the message in the list.
use Rattle.std.proofs.Common.{refl}
use Rattle.views.specs.Queue.{without_message}
use Rattle.machine.proofs.carrying.leave.Goals as goal

pub remove-requires : goal.remove-requires
remove-requires c = (c.requires.1 c.if-removes.true, c.requires.0)

pub returns-then-removes : goal.returns-then-removes
returns-then-removes c = rw c.if-removes.true c.remove.ensures

pub returns-else-removes : goal.returns-else-removes
unfolding without_message
returns-else-removes c = rw c.if-removes.false (record { is = refl; few = c.requires.0 })
