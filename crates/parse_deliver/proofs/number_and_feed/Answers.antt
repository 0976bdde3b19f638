-- `number_and_feed` meets its contract: digit by digit.
use mathlib.Core.Path.{refl}
use native.Mathlib.Omega.{arith}
use Rattle.parse_deliver.proofs.Delivering.{figuring_starts, figuring_small, figuring_goes_on, number_read}
use Rattle.parse_deliver.proofs.number_and_feed.Goals as goal

pub loop-count-init : goal.loop-count-init
loop-count-init c = figuring_starts _

pub overflow_mul-number : goal.overflow_mul-number
overflow_mul-number c = omega (arith, figuring_small c.loop-count.invariant (c.if-may_follow.ensures.0 refl))

pub overflow_add-number : goal.overflow_add-number
overflow_add-number c = omega (arith, figuring_small c.loop-count.invariant (c.if-may_follow.ensures.0 refl))

pub loop-count-preserved : goal.loop-count-preserved
loop-count-preserved c =
    rw c.from.ensures (figuring_goes_on c.loop-count.invariant c.loop-count-test.true (c.if-may_follow.ensures.0 refl) (omega arith) (omega arith))

pub returns-in-10 : goal.returns-in-10
returns-in-10 c = number_read c.loop-count.invariant (omega arith) c.loop-count-test.true c.in-10.is
