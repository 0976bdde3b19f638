-- `slots::load_call` meets its contract: what its callee reads, by its name.
use Rattle.memory.specs.Layout.{call_at}
use Rattle.records.proofs.slots.load_call.Goals as goal

pub returns : goal.returns
unfolding call_at
returns c = c.call_fields.ensures
