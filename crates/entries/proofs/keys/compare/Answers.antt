-- `keys::compare` meets its contract: the order is that of std's slices.
use mathlib.Core.Path.{◌∙◌, ap₂}
use Rattle.entries.specs.Entries.{order}
use Rattle.entries.proofs.Comparison.{order_cmp}
use Rattle.entries.proofs.keys.compare.Goals as goal

pub returns : goal.returns
returns c = c.cmp.ensures ∙ order_cmp c.as_slice.result.now c.as_slice-2.result.now ∙ ap₂ order c.as_slice.ensures c.as_slice-2.ensures
