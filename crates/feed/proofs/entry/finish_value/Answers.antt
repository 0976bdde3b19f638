-- `entry::finish_value` meets its contract: the last line is fed its line feed, then the tally follows.
use mathlib.Core.Path.{sym}
use native.Mathlib.Omega.{arith}
use lib.Seq.{length-take-le}
use Rattle.print.specs.Room.{line_room}
use borrow.Author.Rules.{rules}
use Rattle.feed.proofs.Entering.{end_waits, end_finished, tally_fits}
use Rattle.feed.proofs.entry.finish_value.Goals as goal

pub returns-then-out-lt-FINISH_ROOM-clause-finishes : goal.returns-then-out-lt-FINISH_ROOM-clause-finishes
returns-then-out-lt-FINISH_ROOM-clause-finishes c = rw c.change.ensures (end_waits _ _ _ _ _ _ _ _ _ _ _ _ _ c.if-out-lt-FINISH_ROOM.true)

pub slice_bounds-feed_part-end-2 : goal.slice_bounds-feed_part-end-2
slice_bounds-feed_part-end-2 c = sym (length-take-le line_room c.args.out.now (omega (arith, c.if-out-lt-FINISH_ROOM.false)))

pub put_end-written-requires : goal.put_end-written-requires
put_end-written-requires c = tally_fits _ _ c.args.out.now _ _ _ _ c.if-out-lt-FINISH_ROOM.false c.feed_part-progress.ensures.feeds c.out-1.given.0

pub returns-clause-finishes : goal.returns-clause-finishes
returns-clause-finishes c =
    rw c.change-2.ensures (end_finished _ _ _ _ _ _ _ _ _ c.args.reader.now _ _ c.args.out.now _ _ _ _ _ _ _ _ _ _ _ _ _ c.feed_part-progress.result _ _ (search rules) (search rules) c.if-out-lt-FINISH_ROOM.false c.feed_part-progress.ensures.feeds c.last_feed-feed.ensures c.out-1.given.0 c.put_end-written.ensures.0 c.put_reader.ensures)
