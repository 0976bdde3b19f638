-- `flight::broadcast_of` meets its contract: field by field.
use Rattle.flight.proofs.broadcast_of.Goals as goal

pub returns : goal.returns
returns c = rw (c.unless_vote-bucket.ensures, c.unless_vote-round.ensures)
