-- `other_lines::put_last` meets its contract.
use native.Mathlib.Omega.{arith}
use mathlib.Core.List.{◌++◌}
use lib.ListN.{length-append}
use Rattle.model.specs.Text.{bytes}
use Rattle.model.specs.Print.{decimal}
use Rattle.print.proofs.Printing.{fits_second, both}
use Rattle.print.proofs.other_lines.put_last.Goals as goal

pub put_number-next-requires : goal.put_number-next-requires
unfolding bytes
put_number-next-requires c = omega (arith, c.requires, length-append (c.args.text.now ++ decimal c.args.number) (bytes "\n"))

pub put_bytes-requires : goal.put_bytes-requires
unfolding bytes
put_bytes-requires c = fits_second (c.args.text.now ++ decimal c.args.number) (bytes "\n") (c.requires) c.put_number-next.ensures

pub returns : goal.returns
unfolding bytes
returns c = both (c.args.text.now ++ decimal c.args.number) (bytes "\n") (c.requires) c.put_number-next.ensures c.put_bytes.ensures
