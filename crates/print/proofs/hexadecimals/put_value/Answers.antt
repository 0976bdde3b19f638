-- `hexadecimals::put_value` meets its contract.
use mathlib.Core.Option.{some}
use Rattle.entries.specs.Decoded.{value_bytes}
use Rattle.model.specs.Text.{bytes}
use Rattle.model.specs.Print.{value_text}
use Rattle.print.proofs.Printing.{fits_second, both}
use native.Mathlib.Omega.{arith}
use lib.ListN.{length-append}
use Rattle.print.proofs.hexadecimals.put_value.Goals as goal

pub put_bytes-next-requires : goal.put_bytes-next-requires
unfolding bytes
put_bytes-next-requires c = omega (arith, c.requires, length-append (bytes " ") (value_text (some (value_bytes c.args.value))))

pub put_there-requires : goal.put_there-requires
unfolding bytes
put_there-requires c =
    rw (c.as_slice.ensures) (fits_second (bytes " ") (value_text (some (value_bytes c.args.value))) (c.requires) c.put_bytes-next.ensures)

pub returns : goal.returns
unfolding bytes
returns c =
    both (bytes " ") (value_text (some (value_bytes c.args.value))) (c.requires) c.put_bytes-next.ensures (rw (c.as_slice.ensures) at c.put_there.ensures)
