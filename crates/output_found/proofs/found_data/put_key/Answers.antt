-- `found_data::put_key` meets its contract: the space, then the item.
use native.Mathlib.Omega.{arith}
use lib.ListN.{length-append}
use Rattle.model.specs.Text.{bytes}
use Rattle.model.specs.Print.{hex_pairs}
use Rattle.memory_found.specs.Found.{found_in}
use Rattle.print.proofs.Printing.{fits_second, both}
use Rattle.output_found.specs.Answers.{item_of}
use Rattle.output_found.proofs.found_data.put_key.Goals as goal

pub put_bytes-next-requires : goal.put_bytes-next-requires
unfolding bytes
put_bytes-next-requires c = omega (arith, c.requires, length-append (bytes " ") (hex_pairs (item_of (found_in c.args.found.now) c.args.i)))

pub put_pairs-requires : goal.put_pairs-requires
unfolding bytes
put_pairs-requires c = rw c.found_at.ensures (fits_second (bytes " ") (hex_pairs (item_of (found_in c.args.found.now) c.args.i)) c.requires c.put_bytes-next.ensures)

pub returns : goal.returns
unfolding bytes
returns c = both (bytes " ") (hex_pairs (item_of (found_in c.args.found.now) c.args.i)) c.requires c.put_bytes-next.ensures (rw c.found_at.ensures at c.put_pairs.ensures)
