-- `decimals::put_number` meets its contract.
use Rattle.model.specs.Print.{decimal}
use Rattle.print.proofs.Printing.{fits_second, both}
use native.Mathlib.Omega.{arith}
use lib.ListN.{length-append}
use Rattle.print.proofs.decimals.put_number.Goals as goal

pub put_bytes-next-requires : goal.put_bytes-next-requires
put_bytes-next-requires c = omega (arith, c.requires, length-append c.args.text.now (decimal c.args.number))

pub put_decimal-requires : goal.put_decimal-requires
put_decimal-requires c = fits_second c.args.text.now (decimal c.args.number) (c.requires) c.put_bytes-next.ensures

pub returns : goal.returns
returns c = both c.args.text.now (decimal c.args.number) (c.requires) c.put_bytes-next.ensures c.put_decimal.ensures
