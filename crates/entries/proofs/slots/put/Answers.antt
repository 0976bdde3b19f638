-- `slots::put` meets its contract: the key's slot is replaced, or a new one is put in at its place.
use mathlib.Core.Path.{refl, sym, ap, ◌∙◌}
use mathlib.Core.Option.{some}
use native.Mathlib.Omega.{arith}
use Rattle.entries.specs.Decoded.{entry_in}
use Rattle.entries.proofs.Changes.{held_stored, room_stored, full_refused}
use Rattle.entries.proofs.Edits.{held_four, place_within, table_replaced, table_inserted}
use Rattle.entries.proofs.slots.put.Goals as goal

pub offset_bounds-slots-at : goal.offset_bounds-slots-at
offset_bounds-slots-at c = omega (arith, held_four c.args.table c.in-Ok.ensures)

pub bounds-slots-at : goal.bounds-slots-at
bounds-slots-at c = held_four c.args.table c.in-Ok.ensures

pub inserted-requires : goal.inserted-requires
inserted-requires c = omega (arith, place_within c.args.table c.in-Err.ensures, c.count_of-count.ensures.is, c.if-count-lt-TABLE_ROOM.true)

pub returns-in-Ok : goal.returns-in-Ok
unfolding entry_in
returns-in-Ok c =
    ap some (table_replaced c.args.table c.count_of-count.ensures _ _ refl c.in-Ok.ensures)
    ∙ sym (held_stored 4 _ _ _ (sym c.in-Ok.ensures.held_is))

pub returns-in-Err : goal.returns-in-Err
unfolding entry_in
returns-in-Err c =
    ap some (table_inserted c.args.table c.count_of-count.ensures _ _ _ refl c.in-Err.ensures c.if-count-lt-TABLE_ROOM.true c.inserted.ensures)
    ∙ sym (room_stored 4 _ _ _ (rw (← c.count_of-count.ensures.is) c.if-count-lt-TABLE_ROOM.true))

pub returns-in-Err-2 : goal.returns-in-Err-2
returns-in-Err-2 c = sym (full_refused 4 _ _ _ (sym c.in-Err-2.ensures.held_is) (rw (← c.count_of-count.ensures.is) c.if-count-lt-TABLE_ROOM.false))
