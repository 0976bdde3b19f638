-- `datagram_read` meets its contract.
use mathlib.Core.Path.{◌∙◌}
use Rattle.datagram_c.proofs.Exporting.{number_taken, number_refused}
use Rattle.datagram_c.proofs.datagram_read.Goals as goal

pub returns-in-Ok : goal.returns-in-Ok
returns-in-Ok c = number_taken c.in-Ok.ensures

pub returns-in-Err : goal.returns-in-Err
returns-in-Err c = c.refusal_number.ensures ∙ number_refused c.in-Err.ensures
