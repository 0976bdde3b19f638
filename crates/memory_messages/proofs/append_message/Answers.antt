-- `memory_messages::append_message` meets its contract: the header, then the content at the same place.
use Rattle.memory_messages.proofs.append_message.Goals as goal

pub returns : goal.returns
returns c =
    record { header = c.append_header-place.ensures.header; content = rw (c.payload_from_content.ensures, c.append_header-place.ensures.place) }
