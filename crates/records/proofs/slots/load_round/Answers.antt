-- `slots::load_round` meets its contract: what its callee reads, by its name.
use Rattle.memory.specs.Layout.{round_at}
use Rattle.records.proofs.slots.load_round.Goals as goal

pub returns : goal.returns
unfolding round_at
returns c = c.round_fields.ensures
