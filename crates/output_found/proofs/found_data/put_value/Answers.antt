-- `found_data::put_value` meets its contract: the space, then the item.
use mathlib.Core.Option.{some}
use native.Mathlib.Omega.{arith}
use lib.ListN.{length-append}
use Rattle.model.specs.Text.{bytes}
use Rattle.model.specs.Print.{value_text}
use Rattle.memory_found.specs.Found.{found_in}
use Rattle.print.proofs.Printing.{fits_second, both}
use Rattle.output_found.specs.Answers.{item_of}
use Rattle.output_found.proofs.found_data.put_value.Goals as goal

pub put_bytes-next-requires : goal.put_bytes-next-requires
unfolding bytes
put_bytes-next-requires c = omega (arith, c.requires, length-append (bytes " ") (value_text (some (item_of (found_in c.args.found.now) 0))))

pub put_there-requires : goal.put_there-requires
unfolding bytes
put_there-requires c = rw c.found_at.ensures (fits_second (bytes " ") (value_text (some (item_of (found_in c.args.found.now) 0))) c.requires c.put_bytes-next.ensures)

pub returns : goal.returns
unfolding bytes
returns c = both (bytes " ") (value_text (some (item_of (found_in c.args.found.now) 0))) c.requires c.put_bytes-next.ensures (rw c.found_at.ensures at c.put_there.ensures)
