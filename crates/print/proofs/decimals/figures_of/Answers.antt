-- `decimals::figures_of` meets its contract: figure by figure, the last first.
use borrow.Author.Rules.{rules}
use Rattle.print.proofs.Counting.{counting_starts, counting_goes_on, counting_ends}
use Rattle.print.proofs.decimals.figures_of.Goals as goal

pub loop-rest-init : goal.loop-rest-init
loop-rest-init c = counting_starts _ _ (search rules) (search rules)

pub loop-rest-preserved : goal.loop-rest-preserved
loop-rest-preserved c = counting_goes_on c.loop-rest.invariant c.loop-rest-test.true

pub returns : goal.returns
returns c = counting_ends c.loop-rest.invariant c.loop-rest-test.false
