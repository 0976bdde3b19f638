-- `hexadecimals::put_pairs` meets its contract: byte by byte.
use Rattle.model.specs.Print.{hex_pairs}
use Rattle.print.proofs.Printing.{Each}
use Rattle.print.proofs.hexadecimals.put_pairs.Given as goal

abbrev pub invariant-loop-byte : goal.invariant-loop-byte
invariant-loop-byte l = Each hex_pairs l.bytes l.initial.out l.at l.out l.end l.byte-index
