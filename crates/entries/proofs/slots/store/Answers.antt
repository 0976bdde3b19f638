-- `slots::store` meets its contract: an absent value takes the key away.
use mathlib.Core.Path.{ap}
use mathlib.Core.Option.{some}
use Rattle.entries.specs.Decoded.{item_in}
use Rattle.entries.specs.Entries.{stored}
use Rattle.entries.proofs.slots.store.Goals as goal

pub returns-in-Some : goal.returns-in-Some
unfolding item_in
returns-in-Some c = rw c.in-Some.is c.put.ensures

pub returns-in-None : goal.returns-in-None
unfolding item_in stored
returns-in-None c = rw c.in-None.is (ap some c.remove.ensures)
