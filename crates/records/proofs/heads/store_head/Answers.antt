-- `heads::store_head` meets its contract: the numbers, then a word for each server.
use Rattle.memory.specs.Layout.{put_head}
use Rattle.records.proofs.heads.store_head.Goals as goal

pub returns : goal.returns
unfolding put_head
returns c = rw (c.head_votes.ensures, c.head_numbers.ensures)
