-- `memory_messages::remove_message` meets its contract: the order, which ends the words, is lent as a part.
use Rattle.memory_messages.proofs.Orders.{order_rotated}
use Rattle.memory_messages.proofs.remove_message.Goals as goal

pub returns : goal.returns
returns c = order_rotated c.args.words.now c.told-words c.args.count c.args.index _ c.requires.0 c.requires.1 c.rotate_words.ensures
