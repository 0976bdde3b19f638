-- `feeding::keep_rest` meets its contract.
use mathlib.Core.Path.{refl}
use Rattle.lines.specs.Feeding.{waits, passes}
use Rattle.lines.proofs.feeding.keep_rest.Goals as goal

pub slice_bounds-keep-count : goal.slice_bounds-keep-count
slice_bounds-keep-count c = c.line_feed-feed.ensures.bytes.onward

pub slice_bounds-keep-start : goal.slice_bounds-keep-start
slice_bounds-keep-start c = c.line_feed-feed.ensures.bytes.onward

pub slice_bounds-keep-end : goal.slice_bounds-keep-end
slice_bounds-keep-end c = c.line_feed-feed.ensures.bytes.within

pub returns-then-progress-lt-MAX_LINES : goal.returns-then-progress-lt-MAX_LINES
returns-then-progress-lt-MAX_LINES c = waits _ _ c.if-progress-lt-MAX_LINES.true c.line_feed-feed.ensures c.keep-held.ensures c.waiting.ensures

pub returns-else-progress-lt-MAX_LINES : goal.returns-else-progress-lt-MAX_LINES
returns-else-progress-lt-MAX_LINES c = passes c.if-progress-lt-MAX_LINES.false refl c.passed.ensures
