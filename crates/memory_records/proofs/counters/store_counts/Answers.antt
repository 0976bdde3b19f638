-- `counters::store_counts` meets its contract: what its callee stores, as words of the region.
use Rattle.memory.specs.Layout.{counts_row, put_counts}
use Rattle.memory_regions.proofs.Regions.{counts_stored}
use borrow.Author.Rules.{rules}
use Rattle.memory_records.proofs.counters.store_counts.Goals as goal

pub returns : goal.returns
unfolding put_counts
returns c = rw c.counts_stores.ensures (counts_stored c.args.words.now (counts_row c.args.cluster) 0 0 (search rules))
