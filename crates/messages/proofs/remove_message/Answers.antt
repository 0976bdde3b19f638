-- `messages::remove_message` meets its contract: the order, which lies behind the headers, is lent as a part.
use Rattle.messages.proofs.MessageLaws.{order_lent}
use Rattle.messages.proofs.remove_message.Goals as goal

pub returns : goal.returns
returns c = order_lent c.args.queue.now c.args.count c.args.index _ c.told-queue c.requires.0 c.rotate_words.ensures
