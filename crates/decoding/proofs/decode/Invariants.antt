-- `decode` meets its contract: entry by entry.
use Rattle.table.proofs.Parsing.{Decoding}
use Rattle.decoding.proofs.decode.Given as goal

abbrev pub invariant-loop-i : goal.invariant-loop-i
invariant-loop-i l = Decoding l.bucket l.count l.slots l.at l.i
