-- `decode` meets its contract: entry by entry.
use Rattle.table.proofs.Parsing.{decoding_starts, decoding_goes_on, decoding_ends}
use mathlib.Core.Path.{refl}
use Rattle.decoding.proofs.decode.Goals as goal

pub loop-i-init : goal.loop-i-init
loop-i-init c = decoding_starts c.cut_at-count.ensures (c.requires) refl

pub loop-i-preserved : goal.loop-i-preserved
loop-i-preserved c =
    decoding_goes_on c.loop-i.invariant c.slot_at.result c.loop-i-test.true c.cut_at-key_len.ensures c.cut_at-value_len.ensures c.slot_at.ensures

pub returns : goal.returns
returns c = decoding_ends c.loop-i.invariant c.loop-i-test.false
