-- `slots::place` meets its contract: the keys passed stand before k.
use mathlib.Core.List.{map}
use Rattle.entries.specs.Decoded.{key_bytes, entry_in}
use Rattle.entries.proofs.Placing.{Placing}
use Rattle.entries.proofs.slots.place.Given as goal

abbrev pub invariant-loop-at : goal.invariant-loop-at
invariant-loop-at l = Placing (key_bytes l.key) (map entry_in l.slot-items) l.at
