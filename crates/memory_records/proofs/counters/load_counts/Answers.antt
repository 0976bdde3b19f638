-- `counters::load_counts` meets its contract: what its callee reads, as words of the region.
use mathlib.Core.Path.{sym, ap, ◌∙◌}
use Rattle.memory.specs.Layout.{counts_at, counts_of, counts_words}
use Rattle.memory_regions.proofs.Regions.{counts_row_lem}
use borrow.Author.Rules.{rules}
use Rattle.memory_records.proofs.counters.load_counts.Goals as goal

pub returns : goal.returns
unfolding counts_at
returns c = c.counts_fields.ensures ∙ ap counts_of (sym (counts_row_lem c.args.words.now counts_words 0 0 (search rules)))
