-- `number_and_feed` meets its contract: digit by digit.
use Rattle.parse_deliver.proofs.Delivering.{Figuring}
use Rattle.parse_deliver.proofs.number_and_feed.Given as goal

abbrev pub invariant-loop-count : goal.invariant-loop-count
invariant-loop-count l = Figuring l.bytes l.number l.count
