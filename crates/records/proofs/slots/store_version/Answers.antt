-- `slots::store_version` meets its contract: what its callee stores, by its name.
use Rattle.memory.specs.Layout.{put_version}
use Rattle.records.proofs.slots.store_version.Goals as goal

pub returns : goal.returns
unfolding put_version
returns c = c.version_stores.ensures
