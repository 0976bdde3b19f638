-- `main` is safe and ends: the turns are counted down.
use Rattle.bench.proofs.main.Given as goal

abbrev pub decreases-loop-run : goal.decreases-loop-run
decreases-loop-run l = l.run.turns
