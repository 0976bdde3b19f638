-- `writing::put_each_key` meets its contract: key by key.
use Rattle.memory_found.proofs.Forms.{Listing}
use Rattle.memory_found.proofs.writing.put_each_key.Given as goal

abbrev pub invariant-loop-slot : goal.invariant-loop-slot
invariant-loop-slot l = Listing l.initial.found l.slot-items l.found l.at l.slot-index
