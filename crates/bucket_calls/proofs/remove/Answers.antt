-- `remove` meets its contract: a key that is too long is absent.
use Rattle.std.proofs.lemmas.Result.{err_from_is_err_and}
use Rattle.bucket_calls.proofs.Answering.{room_read, remove_refused, remove_done, remove_long}
use Rattle.bucket_calls.proofs.remove.Goals as goal

pub returns-in_err-before : goal.returns-in_err-before
returns-in_err-before c =
    let p = err_from_is_err_and c.from_residual.result c.from_residual.ensures.1 in
    rw p.1 (remove_refused _ c.in_err-before.ensures)

pub returns-then-key-gt-KEY_ROOM : goal.returns-then-key-gt-KEY_ROOM
returns-then-key-gt-KEY_ROOM c = remove_long _ c.in_ok-before.ensures c.if-key-gt-KEY_ROOM.true

pub encode-requires : goal.encode-requires
encode-requires c = room_read c.in_ok-before.ensures

pub returns : goal.returns
returns c = remove_done _ c.in_ok-before.ensures _ _ _ c.if-key-gt-KEY_ROOM.false c.of.ensures.bytes c.remove.ensures c.encode.ensures
