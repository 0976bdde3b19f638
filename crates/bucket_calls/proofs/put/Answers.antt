-- `put` meets its contract: lengths that no bucket holds are turned down first.
use Rattle.bucket_calls.proofs.Answering.{room_read, put_unstorable, put_refused, put_full, put_done}
use mathlib.Core.Path.{sym}
use Rattle.std.proofs.lemmas.Result.{err_from_is_err_and}
use Rattle.entries.specs.Decoded.{item_in}
use Rattle.bucket_calls.proofs.put.Goals as goal

pub returns-then-not-storable : goal.returns-then-not-storable
returns-then-not-storable c = put_unstorable _ _ (sym c.if-not-storable.ensures)

pub returns-in_err-table : goal.returns-in_err-table
returns-in_err-table c =
    let p = err_from_is_err_and c.from_residual.result c.from_residual.ensures.1 in
    rw (p.1, p.2) (put_refused _ _ (sym c.if-not-storable.ensures) c.in_err-table.ensures)

pub returns-in_err-changed : goal.returns-in_err-changed
unfolding item_in
returns-in_err-changed c =
    let p = err_from_is_err_and c.from_residual-in_err-changed.result c.from_residual-in_err-changed.ensures.1 in
    rw (p.1, p.2) (put_full _ _ (sym c.if-not-storable.ensures) c.in_ok-table.ensures _ _ c.of.ensures.bytes c.of-2.ensures.bytes c.in_err-changed.ensures)

pub encode-requires : goal.encode-requires
encode-requires c = room_read c.in_ok-table.ensures

pub returns : goal.returns
unfolding item_in
returns c = put_done _ _ (sym c.if-not-storable.ensures) c.in_ok-table.ensures _ _ c.of.ensures.bytes c.of-2.ensures.bytes _ _ c.in_ok-changed.ensures c.encode.ensures
