-- `other_lines::put_two` meets its contract.
use native.Mathlib.Omega.{arith}
use mathlib.Core.List.{◌++◌}
use lib.ListN.{length-append}
use Rattle.model.specs.Text.{bytes}
use Rattle.model.specs.Print.{decimal}
use Rattle.print.proofs.Printing.{fits_second, both}
use Rattle.print.proofs.other_lines.put_two.Goals as goal

pub put_number-next-requires : goal.put_number-next-requires
unfolding bytes
put_number-next-requires c = omega (arith, c.requires, length-append (bytes " " ++ decimal c.args.first) (bytes " " ++ decimal c.args.second))

pub put_number-requires : goal.put_number-requires
unfolding bytes
put_number-requires c = fits_second (bytes " " ++ decimal c.args.first) (bytes " " ++ decimal c.args.second) (c.requires) c.put_number-next.ensures

pub returns : goal.returns
unfolding bytes
returns c = both (bytes " " ++ decimal c.args.first) (bytes " " ++ decimal c.args.second) (c.requires) c.put_number-next.ensures c.put_number.ensures
