-- `reading::found_count` meets its contract: the first byte, cut.
use borrow.Author.Rules.{rules}
use Rattle.memory_found.proofs.Items.{counted}
use Rattle.memory_found.proofs.reading.found_count.Goals as goal

pub returns : goal.returns
returns c = counted _ _ (search rules)
