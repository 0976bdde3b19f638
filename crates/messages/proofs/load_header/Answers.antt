-- `messages::load_header` meets its contract: what its callee reads, by its name.
use Rattle.memory.specs.Layout.{header_at}
use Rattle.messages.proofs.load_header.Goals as goal

pub returns : goal.returns
unfolding header_at
returns c = c.message_fields.ensures
