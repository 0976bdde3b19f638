-- `machine_carrying::change_server` meets its contract: the answers, then the server.
use Rattle.machine_carrying.proofs.change_server.Goals as goal

pub returns : goal.returns
returns c = record { listed = c.answer-written.ensures; moves = c.move_server.ensures }
