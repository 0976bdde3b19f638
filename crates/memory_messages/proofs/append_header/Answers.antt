-- `memory_messages::append_header` meets its contract: the first free place, then the header there.
use Rattle.memory_messages.proofs.append_header.Goals as goal

pub returns : goal.returns
returns c =
    record { header = rw (c.store_header.ensures, c.place_of-place.ensures.0); place = c.place_of-place.ensures.0; among = c.place_of-place.ensures.1 }
