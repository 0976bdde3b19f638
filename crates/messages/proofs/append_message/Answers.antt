-- `messages::append_message` meets its contract: the first free place, then the header and the content there.
use Rattle.memory.specs.Layout.{put_content}
use Rattle.messages.proofs.append_message.Goals as goal

pub returns : goal.returns
unfolding put_content
returns c =
    record { headers = rw (c.store_header.ensures, c.place_of-place.ensures.0); contents = rw (c.copy_block_bytes.ensures, c.place_of-place.ensures.0) }
