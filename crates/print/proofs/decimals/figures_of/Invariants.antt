-- `decimals::figures_of` meets its contract: figure by figure, the last first.
use Rattle.print.proofs.Counting.{Counting}
use Rattle.print.proofs.decimals.figures_of.Given as goal

abbrev pub invariant-loop-rest : goal.invariant-loop-rest
invariant-loop-rest l = Counting l.number l.bytes l.from l.rest

abbrev pub decreases-loop-rest : goal.decreases-loop-rest
decreases-loop-rest l = l.rest
