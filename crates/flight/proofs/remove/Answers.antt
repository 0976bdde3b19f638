-- `flight::remove` meets its contract: what its callee leaves, by its name.
use native.Mathlib.Omega.{arith}
use Rattle.views.specs.Queue.{without_message}
use Rattle.flight.proofs.remove.Goals as goal

pub returns : goal.returns
unfolding without_message
returns c = record { is = rw c.remove_message.ensures; few = omega arith }
