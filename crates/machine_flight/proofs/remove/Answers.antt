-- `machine_flight::remove` meets its contract: what its callee leaves, by its name.
use mathlib.Core.Path.{refl}
use native.Mathlib.Omega.{arith}
use Rattle.views.specs.Queue.{without_message}
use Rattle.machine_flight.proofs.remove.Goals as goal

pub returns : goal.returns
unfolding without_message
returns c = record { is = rw c.remove_message.ensures; count = refl; few = omega arith }
