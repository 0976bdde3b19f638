-- `answer_text::put_each_key` meets its contract: key by key.
use mathlib.Core.List.{map}
use Rattle.entries.specs.Decoded.{key_bytes}
use Rattle.model.specs.Print.{key_list}
use Rattle.print.proofs.Printing.{Each}
use Rattle.print.proofs.answer_text.put_each_key.Given as goal

abbrev pub invariant-loop-key : goal.invariant-loop-key
invariant-loop-key l = Each key_list (map key_bytes l.keys) l.initial.out l.at l.out l.end l.key-index
