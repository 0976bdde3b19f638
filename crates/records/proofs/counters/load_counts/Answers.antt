-- `counters::load_counts` meets its contract: what its callee reads, by its name.
use Rattle.memory.specs.Layout.{counts_at}
use Rattle.records.proofs.counters.load_counts.Goals as goal

pub returns : goal.returns
unfolding counts_at
returns c = c.counts_fields.ensures
