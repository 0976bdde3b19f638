-- `answer_list::put_answers` meets its contract: answer by answer.
use native.Mathlib.Omega.{arith}
use Rattle.output.proofs.Answering.{answering_starts, answering_fits, answering_goes_on, answering_ends}
use Rattle.output.proofs.answer_list.put_answers.Goals as goal

pub loop-i-init : goal.loop-i-init
loop-i-init c = answering_starts _ _ _ _ _ _ c.requires.0 c.requires.1

pub load_answer-answer-requires : goal.load_answer-answer-requires
load_answer-answer-requires c = omega (arith, c.loop-i.invariant.few, c.loop-i-test.true)

pub put_one-next-requires : goal.put_one-next-requires
put_one-next-requires c = answering_fits c.loop-i.invariant c.loop-i-test.true

pub loop-i-preserved : goal.loop-i-preserved
loop-i-preserved c =
    answering_goes_on c.loop-i.invariant c.loop-i-test.true (rw c.load_answer-answer.ensures at c.put_one-next.ensures.0) c.put_one-next.ensures.1

pub shape_of-out : goal.shape_of-out
shape_of-out c = c.loop-i.invariant.size

pub returns : goal.returns
returns c = answering_ends c.loop-i.invariant c.loop-i-test.false
