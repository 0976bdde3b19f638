-- `hexadecimals::put_key` meets its contract.
use Rattle.entries.specs.Decoded.{key_bytes}
use Rattle.model.specs.Text.{bytes}
use Rattle.model.specs.Print.{hex_pairs}
use Rattle.print.proofs.Printing.{fits_second, both}
use native.Mathlib.Omega.{arith}
use lib.ListN.{length-append}
use Rattle.print.proofs.hexadecimals.put_key.Goals as goal

pub put_bytes-next-requires : goal.put_bytes-next-requires
unfolding bytes
put_bytes-next-requires c = omega (arith, c.requires, length-append (bytes " ") (hex_pairs (key_bytes c.args.key)))

pub put_pairs-requires : goal.put_pairs-requires
unfolding bytes
put_pairs-requires c =
    rw (c.as_slice.ensures) (fits_second (bytes " ") (hex_pairs (key_bytes c.args.key)) (c.requires) c.put_bytes-next.ensures)

pub returns : goal.returns
unfolding bytes
returns c =
    both (bytes " ") (hex_pairs (key_bytes c.args.key)) (c.requires) c.put_bytes-next.ensures (rw (c.as_slice.ensures) at c.put_pairs.ensures)
