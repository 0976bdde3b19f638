-- `slots::no_table` meets its contract: none of its slots count.
use mathlib.Core.Path.{refl}
use Rattle.entries.specs.Decoded.{table_in}
use Rattle.entries.proofs.slots.no_table.Goals as goal

pub returns : goal.returns
unfolding table_in
returns c = (refl, refl)
