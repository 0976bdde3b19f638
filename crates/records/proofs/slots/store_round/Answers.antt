-- `slots::store_round` meets its contract: the numbers, then a word for each server.
use Rattle.memory.specs.Layout.{put_round}
use Rattle.records.proofs.slots.store_round.Goals as goal

pub returns : goal.returns
unfolding put_round
returns c = rw (c.round_marks.ensures, c.round_numbers.ensures)
