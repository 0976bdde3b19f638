-- One more turn of the loop over a server's slots, as its definition has it.
use mathlib.Core.Path.{◌≡◌}
use mathlib.Core.List.{List}
use Prim.Native.Nat.{ℕ, ◌+◌}
use native.Mathlib.Numerals.{add-one}
use Rattle.memory.specs.Layout.{slot_of}
use Rattle.views.specs.Changes.{cleared_slot, cleared_slots}

pub cleared_next : (slots : List ℕ) (s b : ℕ) → cleared_slots slots s (b + 1) ≡ cleared_slot (cleared_slots slots s b) (slot_of s b)
unfolding cleared_slots
cleared_next slots s b = rw add-one
