-- `slots::store_call` meets its contract: what its callee stores, by its name.
use Rattle.memory.specs.Layout.{put_call}
use Rattle.records.proofs.slots.store_call.Goals as goal

pub returns : goal.returns
unfolding put_call
returns c = c.call_stores.ensures
