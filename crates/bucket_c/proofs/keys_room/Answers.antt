-- `keys_room` meets its contract: key by key.
use Rattle.bucket_c.proofs.Exporting.{passing_goes_on, passing_ends}
use Rattle.bucket_c.proofs.keys_room.Goals as goal

pub loop-key-preserved : goal.loop-key-preserved
loop-key-preserved c = passing_goes_on c.loop-key.invariant c.loop-key-test.true c.length.ensures.is c.length.ensures.low

pub returns : goal.returns
returns c = passing_ends c.loop-key.invariant c.loop-key-test.false
