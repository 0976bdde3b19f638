-- `datagram_rewrite` meets its contract.
use Rattle.datagram_c.proofs.Exporting.{rewrites, refuses}
use Rattle.datagram_c.proofs.datagram_rewrite.Goals as goal

pub returns-in-Ok : goal.returns-in-Ok
returns-in-Ok c = rw c.written_number.ensures (rewrites c.in-Ok.ensures _ _ _ c.write.ensures)

pub returns-in-Err : goal.returns-in-Err
returns-in-Err c = rw c.refusal_number.ensures (refuses c.in-Err.ensures _)
