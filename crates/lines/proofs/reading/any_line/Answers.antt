-- `reading::any_line` meets its contract: where its line feed was found.
use mathlib.Core.Path.{refl}
use Rattle.lines.specs.Feeding.{whole, unended}
use Rattle.lines.proofs.WholeLines.{feed_none}
use Rattle.lines.proofs.reading.any_line.Goals as goal

pub slice_bounds-read_line-count : goal.slice_bounds-read_line-count
slice_bounds-read_line-count c = c.line_feed-feed.ensures.bytes.onward

pub slice_bounds-read_line-start : goal.slice_bounds-read_line-start
slice_bounds-read_line-start c = c.line_feed-feed.ensures.bytes.onward

pub slice_bounds-read_line-end : goal.slice_bounds-read_line-end
slice_bounds-read_line-end c = c.line_feed-feed.ensures.bytes.within

pub returns-then-feed-input : goal.returns-then-feed-input
returns-then-feed-input c = whole _ _ refl c.line_feed-feed.ensures c.if-feed-input.true refl c.read_line-present.ensures.0 c.read_line-present.ensures.1

pub returns-else-feed-input : goal.returns-else-feed-input
returns-else-feed-input c = unended refl refl (feed_none _ _ _ c.line_feed-feed.ensures c.if-feed-input.false)
