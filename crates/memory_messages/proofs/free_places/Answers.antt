-- `memory_messages::free_places` meets its contract: the order, which ends the words, is lent as a part.
use Rattle.memory_messages.proofs.Orders.{order_freed}
use Rattle.memory_messages.proofs.free_places.Goals as goal

pub returns : goal.returns
returns c = order_freed c.args.words.now c.told-words _ c.number_words.ensures
