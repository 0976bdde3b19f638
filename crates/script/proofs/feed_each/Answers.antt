-- `feed_each` meets its contract: each array of the struct is the one that was lent.
use Rattle.std.proofs.Common.{rules}
use Rattle.script.proofs.Anew.{fed_anew}
use Rattle.script.proofs.feed_each.Goals as goal

pub returns : goal.returns
returns c = fed_anew c.feed_lent.ensures.feeds (search rules) (search rules) (search rules) (search rules) (search rules) (search rules) (search rules) (search rules) (search rules)
