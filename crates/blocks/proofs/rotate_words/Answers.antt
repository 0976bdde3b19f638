-- `blocks::rotate_words` meets its contract: the later words move down, and the word goes behind them.
use native.Mathlib.Omega.{arith}
use mathlib.Core.Path.{◌≡◌}
use Prim.Native.Nat.{◌-◌, ◌+◌}
use borrow.Author.Rules.{rules}
use Rattle.blocks.proofs.Order.{lent_rotated}
use Rattle.blocks.proofs.rotate_words.Goals as goal

pub returns : goal.returns
returns c =
    let e : c.args.count - c.args.i - 1 ≡ c.args.count - (c.args.i + 1) = omega arith in
    lent_rotated c.args.count c.args.i c.args.list.now (search rules) (search rules) _ (rw e at c.copy_within.ensures.after)
