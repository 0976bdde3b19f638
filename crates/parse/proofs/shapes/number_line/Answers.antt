-- `shapes::number_line` meets its contract.
use mathlib.Core.Path.{◌∙◌}
use Rattle.parse.proofs.Forms.{number_reads, number_fails}
use Rattle.parse.proofs.shapes.number_line.Goals as goal

pub returns-in_err-number : goal.returns-in_err-number
returns-in_err-number c = c.from_residual.ensures ∙ number_fails _ _ c.in_err-number.ensures

pub returns : goal.returns
returns c = rw c.of_numbers.ensures (number_reads _ _ c.in_ok-number.ensures)
