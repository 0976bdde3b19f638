-- `keeping::keep` meets its contract: as many as there is room for.
use mathlib.Core.Path.{sym}
use borrow.Author.Rules.{rules}
use native.Mathlib.Omega.{arith}
use Rattle.lines.proofs.Holding.{put_none, put_cut}
use Rattle.lines.proofs.keeping.keep.Goals as goal

pub returns-then-count-ge-KEPT_LEN : goal.returns-then-count-ge-KEPT_LEN
returns-then-count-ge-KEPT_LEN c = sym (put_none _ _ (omega arith))

pub returns : goal.returns
returns c = put_cut _ c.args.count _ (search rules) (omega arith) c.min-kept.ensures c.copy_from_slice.ensures.after
