-- `slots::find` meets its contract: the value stands at the key's place.
use mathlib.Core.Path.{sym, ◌∙◌}
use native.Mathlib.Omega.{arith}
use Rattle.entries.specs.Decoded.{item_in}
use Rattle.entries.proofs.Changes.{absent_value}
use Rattle.entries.proofs.Edits.{held_four, found}
use Rattle.entries.proofs.Views.{absent_none}
use Rattle.entries.proofs.slots.find.Goals as goal

pub offset_bounds-table-at : goal.offset_bounds-table-at
offset_bounds-table-at c = omega (arith, held_four c.args.table c.in-Ok.ensures)

pub bounds-table-at : goal.bounds-table-at
bounds-table-at c = held_four c.args.table c.in-Ok.ensures

pub returns-in-Ok : goal.returns-in-Ok
unfolding item_in
returns-in-Ok c = found c.args.table c.in-Ok.ensures

pub returns-in-Err : goal.returns-in-Err
returns-in-Err c = absent_none ∙ sym (absent_value _ _ (sym c.in-Err.ensures.held_is))
