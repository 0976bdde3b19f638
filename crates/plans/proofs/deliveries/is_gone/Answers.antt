-- `deliveries::is_gone` meets its contract: the message's receiver is asked.
use Rattle.plans.specs.Plans.{gone}
use Rattle.plans.proofs.deliveries.is_gone.Goals as goal

pub returns : goal.returns
unfolding gone
returns c = c.has_no_receiver.ensures
