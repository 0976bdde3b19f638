-- `memory_messages::store_header` meets its contract: what its callee stores, as words of the region.
use Prim.Native.Nat.{◌*◌}
use Rattle.memory.specs.Layout.{message_row, message_size, put_header}
use Rattle.memory_regions.proofs.Regions.{queue_stored}
use borrow.Author.Rules.{rules}
use Rattle.memory_messages.proofs.store_header.Goals as goal

pub returns : goal.returns
unfolding put_header
returns c = rw c.message_stores.ensures (queue_stored c.args.words.now (message_row c.args.message) (c.args.place * message_size) 0 (search rules))
