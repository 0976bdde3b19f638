-- `keeping::line_feed` meets its contract.
use Rattle.lines.proofs.Finding.{rest_whole, feed_found, feed_missing}
use Rattle.lines.proofs.keeping.line_feed.Goals as goal

pub returns-in-Some : goal.returns-in-Some
returns-in-Some c =
    let whole = rest_whole c.args.input.now c.args.from in
    feed_found _ _ c.requires (rw whole at c.in-Some.ensures.is) (rw whole at c.in-Some.ensures.within)

pub returns-in-None : goal.returns-in-None
returns-in-None c = feed_missing _ _ c.requires (rw (rest_whole c.args.input.now c.args.from) at c.in-None.ensures.is)
