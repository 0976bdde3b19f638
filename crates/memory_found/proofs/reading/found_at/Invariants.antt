-- `reading::found_at` meets its contract: item by item.
use Rattle.memory_found.proofs.Items.{From}
use Rattle.memory_found.proofs.reading.found_at.Given as goal

abbrev pub invariant-loop : goal.invariant-loop
invariant-loop l = From l.found l.counter l.rest
