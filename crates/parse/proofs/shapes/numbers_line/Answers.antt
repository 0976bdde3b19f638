-- `shapes::numbers_line` meets its contract.
use mathlib.Core.Path.{◌∙◌}
use Rattle.parse.proofs.Forms.{numbers_read, first_fails, second_fails}
use Rattle.parse.proofs.shapes.numbers_line.Goals as goal

pub returns-in_err-number : goal.returns-in_err-number
returns-in_err-number c = c.from_residual.ensures ∙ first_fails _ _ _ c.in_err-number.ensures

pub returns-in_err-number-2 : goal.returns-in_err-number-2
returns-in_err-number-2 c = c.from_residual-in_err-number-2.ensures ∙ second_fails _ _ _ c.in_err-number-2.ensures

pub returns : goal.returns
returns c = rw c.of_numbers.ensures (numbers_read _ _ _ c.in_ok-number.ensures c.in_ok-number-2.ensures)
