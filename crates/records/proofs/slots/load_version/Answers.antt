-- `slots::load_version` meets its contract: what its callee reads, by its name.
use Rattle.memory.specs.Layout.{version_at}
use Rattle.records.proofs.slots.load_version.Goals as goal

pub returns : goal.returns
unfolding version_at
returns c = c.version_fields.ensures
