-- `fresh::free_places` meets its contract: the words behind the headers.
use Rattle.machine.proofs.Zeros.{places_lent}
use Rattle.machine.proofs.fresh.free_places.Goals as goal

pub returns : goal.returns
returns c = places_lent c.args.queue.now _ c.told-queue c.number_words.ensures
