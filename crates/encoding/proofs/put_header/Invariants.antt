-- `put_header` meets its contract: entry by entry.
use Rattle.table.proofs.Filling.{Heading}
use Rattle.encoding.proofs.put_header.Given as goal

abbrev pub invariant-loop-i : goal.invariant-loop-i
invariant-loop-i l = Heading l.initial.out l.slots l.out l.at l.i
