-- `other_lines::put_refusal` meets its contract.
use native.Mathlib.Omega.{arith}
use mathlib.Core.List.{◌++◌}
use lib.ListN.{length-append}
use Rattle.model.specs.Text.{bytes}
use Rattle.model.specs.Print.{decimal}
use Rattle.print.proofs.Printing.{fits_second, both}
use Rattle.print.proofs.Texts.{refusal_text}
use Rattle.print.proofs.other_lines.put_refusal.Goals as goal

pub put_number-next-requires : goal.put_number-next-requires
unfolding bytes
put_number-next-requires c =
    omega (arith, rw (refusal_text c.args.line c.args.number) at (c.requires), length-append (bytes "line " ++ decimal c.args.line) ((bytes " refused " ++ decimal c.args.number) ++ bytes "\n"))

pub put_last-requires : goal.put_last-requires
unfolding bytes
put_last-requires c =
    fits_second (bytes "line " ++ decimal c.args.line) ((bytes " refused " ++ decimal c.args.number) ++ bytes "\n") (rw (refusal_text c.args.line c.args.number) at (c.requires)) c.put_number-next.ensures

pub returns : goal.returns
unfolding bytes
returns c =
    rw (refusal_text c.args.line c.args.number) (both (bytes "line " ++ decimal c.args.line) ((bytes " refused " ++ decimal c.args.number) ++ bytes "\n") (rw (refusal_text c.args.line c.args.number) at (c.requires)) c.put_number-next.ensures c.put_last.ensures)
