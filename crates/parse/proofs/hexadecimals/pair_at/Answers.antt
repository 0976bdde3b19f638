-- `hexadecimals::pair_at` meets its contract.
use mathlib.Core.Path.{sym}
use borrow.Author.Rules.{rules}
use Rattle.parse.proofs.Pairs.{pair_byte}
use Rattle.parse.proofs.hexadecimals.pair_at.Goals as goal

pub returns : goal.returns
returns c = rw (c.nibble.ensures.is, c.nibble-2.ensures.is) (sym (pair_byte c.args.word.now c.args.i (search rules)))
