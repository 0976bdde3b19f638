-- `slots::remove` meets its contract: the slot at the key's place is taken out.
use mathlib.Core.Path.{sym}
use native.Mathlib.Omega.{arith}
use Rattle.entries.proofs.Changes.{absent_remove}
use Rattle.entries.proofs.Edits.{held_below, held_four, table_removed}
use Rattle.entries.proofs.slots.remove.Goals as goal

pub overflow_sub-result : goal.overflow_sub-result
overflow_sub-result c = omega (arith, held_below c.args.table c.in-Ok.ensures, c.count_of.ensures.is)

pub removed-requires : goal.removed-requires
removed-requires c = omega (arith, held_four c.args.table c.in-Ok.ensures)

pub returns-in-Ok : goal.returns-in-Ok
returns-in-Ok c = table_removed c.args.table c.count_of.ensures c.removed.result c.in-Ok.ensures c.removed.ensures

pub returns-in-Err : goal.returns-in-Err
returns-in-Err c = sym (absent_remove _ _ (sym c.in-Err.ensures.held_is))
