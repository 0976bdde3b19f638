-- `answers::answer` meets its contract: all open calls, none, or the one of the move.
use native.Mathlib.Omega.{arith}
use borrow.Author.Tests.{eq-eqb, ne_eqb}
use Rattle.views.specs.Changes.{answered}
use Rattle.answers.proofs.answer.Goals as goal

pub returns-then-next-2 : goal.returns-then-next-2
unfolding answered
returns-then-next-2 c = record { is = rw (answered, c.if-next.true, c.if-next-2.true); few = omega arith }

pub returns-then-next : goal.returns-then-next
unfolding answered
returns-then-next c = rw (answered, c.if-next.true, c.if-next-2.false) c.end_calls.ensures

pub returns-then-own-eq-NO_RESULT : goal.returns-then-own-eq-NO_RESULT
unfolding answered
returns-then-own-eq-NO_RESULT c = record { is = rw (answered, c.if-next.false, eq-eqb _ _ c.if-own-eq-NO_RESULT.true); few = omega arith }

pub returns : goal.returns
unfolding answered
returns c = record { is = rw (c.put_answer.ensures, answered, c.if-next.false, ne_eqb _ _ c.if-own-eq-NO_RESULT.false); few = omega arith }
