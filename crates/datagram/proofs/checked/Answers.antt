-- `checked` meets its contract.
use mathlib.Core.Path.{sym}
use Rattle.fields.proofs.Parsing.{checked_right, checked_wrong}
use Rattle.datagram.proofs.Answering.{stands_datagram, stands_taken, stands_too}
use Rattle.datagram.proofs.checked.Goals as goal

pub returns-then-well_formed : goal.returns-then-well_formed
returns-then-well_formed c =
    stands_too (stands_taken c.args.datagram c.requires) (sym (checked_right _ (sym c.if-well_formed.ensures)))

pub returns-else-well_formed : goal.returns-else-well_formed
returns-else-well_formed c = stands_too stands_datagram (sym (checked_wrong _ (sym c.if-well_formed.ensures)))
