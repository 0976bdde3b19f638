-- `bucket_keys` meets its contract.
use Rattle.bucket_c.proofs.Exporting.{keys_refused, list_written, list_short}
use Rattle.bucket_c.proofs.bucket_keys.Goals as goal

pub returns-then-out-room : goal.returns-then-out-room
returns-then-out-room c = list_short _ c.in-Ok.list _ c.in-Ok.ensures.is _ c.keys_room-room.ensures c.if-out-room.true

pub returns-else-out-room : goal.returns-else-out-room
returns-else-out-room c = list_written _ c.in-Ok.list _ c.in-Ok.ensures.is _ c.put_keys.ensures

pub returns-in-Err : goal.returns-in-Err
returns-in-Err c = keys_refused _ _ _ c.in-Err.ensures.is
