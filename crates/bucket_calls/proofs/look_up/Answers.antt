-- `look_up` meets its contract: a key that is too long is absent.
use Rattle.std.proofs.lemmas.Result.{err_from_is_err_and}
use Rattle.bucket_calls.proofs.Answering.{look_refused, look_long, look_found}
use borrow.Author.Rules.{rules}
use Rattle.bucket_calls.proofs.look_up.Goals as goal

pub returns-in_err-table : goal.returns-in_err-table
returns-in_err-table c =
    let p = err_from_is_err_and c.from_residual.result c.from_residual.ensures.1 in
    rw p.1 (look_refused _ c.in_err-table.ensures)

pub returns-then-key-gt-KEY_ROOM : goal.returns-then-key-gt-KEY_ROOM
returns-then-key-gt-KEY_ROOM c = look_long _ c.in_ok-table.ensures c.if-key-gt-KEY_ROOM.true

pub returns : goal.returns
returns c = let h = c.map.ensures.cases in look_found _ c.in_ok-table.ensures _ c.find.result c.map.result c.if-key-gt-KEY_ROOM.false c.of.ensures.bytes c.find.ensures (search rules)
