-- `found_data::put_each_key` meets its contract: key by key.
use Rattle.model.specs.Print.{key_list}
use Rattle.memory_found.specs.Found.{found_in}
use Rattle.print.proofs.Printing.{Each}
use Rattle.output_found.proofs.found_data.put_each_key.Given as goal

abbrev pub invariant-loop-i : goal.invariant-loop-i
invariant-loop-i l = Each key_list (found_in l.found) l.initial.out l.at l.out l.end l.i
