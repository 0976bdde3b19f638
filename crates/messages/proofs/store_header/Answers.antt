-- `messages::store_header` meets its contract: what its callee stores, by its name.
use Rattle.memory.specs.Layout.{put_header}
use Rattle.messages.proofs.store_header.Goals as goal

pub returns : goal.returns
unfolding put_header
returns c = c.message_stores.ensures
