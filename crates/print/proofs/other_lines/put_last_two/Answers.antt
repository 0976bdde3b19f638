-- `other_lines::put_last_two` meets its contract.
use native.Mathlib.Omega.{arith}
use mathlib.Core.List.{◌++◌}
use lib.ListN.{length-append}
use Rattle.model.specs.Text.{bytes}
use Rattle.model.specs.Print.{decimal}
use Rattle.print.proofs.Printing.{fits_second, both}
use Rattle.print.proofs.other_lines.put_last_two.Goals as goal

pub put_number-next-requires : goal.put_number-next-requires
unfolding bytes
put_number-next-requires c =
    omega (arith, c.requires, length-append (bytes " " ++ decimal c.args.first) ((bytes " " ++ decimal c.args.second) ++ bytes "\n"))

pub put_last-requires : goal.put_last-requires
unfolding bytes
put_last-requires c =
    fits_second (bytes " " ++ decimal c.args.first) ((bytes " " ++ decimal c.args.second) ++ bytes "\n") (c.requires) c.put_number-next.ensures

pub returns : goal.returns
unfolding bytes
returns c =
    both (bytes " " ++ decimal c.args.first) ((bytes " " ++ decimal c.args.second) ++ bytes "\n") (c.requires) c.put_number-next.ensures c.put_last.ensures
