-- `put_body` meets its contract: entry by entry.
use Rattle.table.proofs.Filling.{bodying_goes_on, bodying_ends}
use Rattle.encoding.proofs.put_body.Goals as goal

pub loop-slot-preserved : goal.loop-slot-preserved
loop-slot-preserved c = bodying_goes_on c.loop-slot.invariant c.put_entry-at.new.out c.loop-slot-test.true c.put_entry-at.ensures

pub returns : goal.returns
returns c = bodying_ends c.loop-slot.invariant c.used-slots.ensures.entries c.loop-slot-test.false
