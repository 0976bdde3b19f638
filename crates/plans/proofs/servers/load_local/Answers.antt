-- `servers::load_local` meets its contract: the records that it loads.
use Rattle.plans.proofs.servers.load_local.Goals as goal

pub returns : goal.returns
returns c = rw (c.load_call.ensures, c.load_round.ensures, c.load_version.ensures, c.load_head.ensures)
