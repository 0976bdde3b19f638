-- `put_body` meets its contract: entry by entry.
use Rattle.table.proofs.Filling.{Bodying}
use Rattle.encoding.proofs.put_body.Given as goal

abbrev pub invariant-loop-slot : goal.invariant-loop-slot
invariant-loop-slot l = Bodying l.initial.out l.slots l.out l.at l.slot-index
