-- `machine_carrying::leave` meets its contract: a copy leaves the message in the list.
use Rattle.std.proofs.Common.{refl}
use Rattle.views.specs.Queue.{without_message}
use Rattle.machine_carrying.proofs.leave.Goals as goal

pub remove-requires : goal.remove-requires
remove-requires c = (c.requires.there c.if-step.true, c.requires.messages)

pub returns-then-step : goal.returns-then-step
returns-then-step c = rw c.if-step.true c.remove.ensures

pub returns-else-step : goal.returns-else-step
unfolding without_message
returns-else-step c = rw c.if-step.false (record { is = refl; count = refl; few = c.requires.messages })
