-- `blocks::copy_block_bytes` meets its contract: a block is copied as a part.
use borrow.Author.Rules.{rules}
use Rattle.blocks.proofs.Laws.{paste_stored}
use Rattle.blocks.proofs.copy_block_bytes.Goals as goal

pub returns : goal.returns
returns c = rw c.copy_part_bytes.ensures (paste_stored _ _ _ _ _ (search rules) (search rules))
