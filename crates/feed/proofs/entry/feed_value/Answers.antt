-- `entry::feed_value` meets its contract.
use borrow.Author.Rules.{rules}
use Rattle.feed.proofs.Entering.{part_fed}
use Rattle.feed.proofs.entry.feed_value.Goals as goal

pub returns-clause-feeds : goal.returns-clause-feeds
returns-clause-feeds c =
    rw c.change.ensures (part_fed _ _ c.args.reader.now _ _ _ _ _ _ _ _ c.feed_part-progress.result _ (search rules) (search rules) c.feed_part-progress.ensures.feeds c.put_reader.ensures)
