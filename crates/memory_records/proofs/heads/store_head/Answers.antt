-- `heads::store_head` meets its contract: the numbers, then a word for each server, as words of the region.
use Prim.Native.Nat.{◌*◌}
use Rattle.memory.specs.Layout.{head_row, head_size, put_head}
use Rattle.memory_regions.proofs.Regions.{heads_stored}
use borrow.Author.Rules.{rules}
use Rattle.memory_records.proofs.heads.store_head.Goals as goal

pub returns : goal.returns
unfolding put_head
returns c =
    rw (c.head_votes.ensures, c.head_numbers.ensures) (heads_stored c.args.words.now (head_row c.args.head) (c.args.server * head_size) 0 (search rules))
