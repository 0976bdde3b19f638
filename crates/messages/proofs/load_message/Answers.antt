-- `messages::load_message` meets its contract: the header at its place.
use Rattle.messages.proofs.load_message.Goals as goal

pub returns : goal.returns
returns c = rw (c.load_header.ensures, c.place_of-place.ensures.0)
