-- `digits::number` meets its contract: by the number of digits, and the first of them.
use mathlib.Core.Path.{ap, ◌∙◌}
use native.Mathlib.Omega.{arith}
use Rattle.parse.specs.Digits.{optional}
use Rattle.parse.proofs.Numbers.{number_sized, number_zero, number_read}
use Rattle.parse.proofs.digits.number.Goals as goal
use Rattle.parse.proofs.digits.number.Goals.{else-word-gt1-via-then-word-gt1+else-word-eq48, else-word-gt1-via-else-word-gt1}

pub returns-then-word-eq48 : goal.returns-then-word-eq48
returns-then-word-eq48 c = ap optional (number_zero _ c.if-word-gt1.true c.if-word-eq48.true)

pub returns-in-1-to-9 : goal.returns-in-1-to-9
returns-in-1-to-9 c =
    elim c.else-word-gt1.branch [
      | else-word-gt1-via-then-word-gt1+else-word-eq48 w ↦ c.digits.ensures ∙ ap optional (number_read c.args.word.now (omega arith) (omega arith) (λ _. w.if-word-eq48.false))
      | else-word-gt1-via-else-word-gt1 w ↦ c.digits.ensures ∙ ap optional (number_read c.args.word.now (omega arith) (omega arith) (λ h. absurd (omega arith)))
    ]

pub returns-in_default : goal.returns-in_default
returns-in_default c = number_sized c.args.word.now (λ h. omega arith)

pub returns-in_default-2 : goal.returns-in_default-2
returns-in_default-2 c = number_sized c.args.word.now (λ h. omega arith)
