-- `decimals::put_decimal` meets its contract.
use native.Mathlib.Omega.{arith}
use Rattle.print.proofs.Counting.{figures_whole}
use Rattle.print.proofs.decimals.put_decimal.Goals as goal

pub slice_bounds-put_bytes-end : goal.slice_bounds-put_bytes-end
slice_bounds-put_bytes-end c = omega (arith, c.figures_of-figures.ensures.ten)

pub put_bytes-requires : goal.put_bytes-requires
put_bytes-requires c = rw (figures_whole c.figures_of-figures.ensures) (c.requires)

pub returns : goal.returns
returns c = rw (figures_whole c.figures_of-figures.ensures) at c.put_bytes.ensures
