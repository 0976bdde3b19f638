-- `put_header` meets its contract: entry by entry.
use Rattle.table.proofs.Filling.{heading_goes_on, heading_ends}
use Rattle.encoding.proofs.put_header.Goals as goal

pub loop-i-preserved : goal.loop-i-preserved
loop-i-preserved c = heading_goes_on c.loop-i.invariant c.put_offsets-at.new.out c.loop-i-test.true c.put_offsets-at.ensures

pub returns : goal.returns
returns c = heading_ends c.loop-i.invariant c.used-slots.ensures.entries c.loop-i-test.false
