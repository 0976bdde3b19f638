-- `slots::store_round` meets its contract: the numbers, then a word for each server, as words of the region.
use Prim.Native.Nat.{◌*◌}
use Rattle.memory.specs.Layout.{put_round, round_place, round_row, slot_size}
use Rattle.memory_regions.proofs.Regions.{slots_stored}
use borrow.Author.Rules.{rules}
use Rattle.memory_records.proofs.slots.store_round.Goals as goal

pub returns : goal.returns
unfolding put_round
returns c =
    rw (c.round_marks.ensures, c.round_numbers.ensures) (slots_stored c.args.words.now (round_row c.args.round) (c.args.slot * slot_size) round_place (search rules))
