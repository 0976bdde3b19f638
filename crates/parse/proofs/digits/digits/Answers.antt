-- `digits::digits` meets its contract: digit by digit.
use mathlib.Core.Path.{◌∙◌}
use Rattle.parse.proofs.Numbers.{reading_goes_on, reading_fails, reading_ends}
use Rattle.parse.proofs.digits.digits.Goals as goal

pub returns-in_err-figure : goal.returns-in_err-figure
returns-in_err-figure c = c.from_residual.ensures ∙ reading_fails c.loop-byte.invariant c.loop-byte-test.true c.in_err-figure.ensures.is

pub loop-byte-preserved : goal.loop-byte-preserved
loop-byte-preserved c = rw (c.from.ensures) (reading_goes_on c.loop-byte.invariant c.loop-byte-test.true c.in_ok-figure.ensures.is c.in_ok-figure.ensures.low)

pub returns : goal.returns
returns c = reading_ends c.loop-byte.invariant c.loop-byte-test.false
