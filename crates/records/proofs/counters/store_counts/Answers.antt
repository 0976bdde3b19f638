-- `counters::store_counts` meets its contract: what its callee stores, by its name.
use Rattle.memory.specs.Layout.{put_counts}
use Rattle.records.proofs.counters.store_counts.Goals as goal

pub returns : goal.returns
unfolding put_counts
returns c = c.counts_stores.ensures
