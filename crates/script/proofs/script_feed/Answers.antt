-- `script_feed` meets its contract: what it leaves array by array.
use Rattle.script.proofs.script_feed.Goals as goal

pub returns : goal.returns
returns c = c.feed_each.ensures.does
