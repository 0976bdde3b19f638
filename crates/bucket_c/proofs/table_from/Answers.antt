-- `table_from` meets its contract: slot by slot.
use borrow.Author.Rules.{rules}
use Rattle.entries.specs.Decoded.{blank}
use Rattle.bucket_c.specs.Exports.{slot_from, table_from}
use Rattle.bucket_c.proofs.Windows.{four_items}
use Rattle.bucket_c.proofs.table_from.Goals as goal

pub returns : goal.returns
unfolding table_from
returns c =
    rw (four_items (slot_from c.args.lengths.now c.args.bytes.now) blank c.from_fn.result c.from_fn.ensures.items.long (λ i h. let (p, q, w) = c.from_fn.ensures.items.at i blank h in search rules))
