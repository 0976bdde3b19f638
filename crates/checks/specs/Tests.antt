-- The tests on a decoded table that are no part of the form.
use Rattle.std.specs.Prelude.{◌≡◌, List, [], ◌∷◌, Bool, true, false, ◌≤◌, leb, length, take}
use Rattle.entries.specs.declared.Slot.{Slot}
use Rattle.entries.specs.declared.Decoded.{Decoded}
use Rattle.std.specs.Ordering.{is_lt}
use Rattle.entries.specs.Entries.{Entry, order}
use Rattle.entries.specs.Decoded.{key_bytes}
use Rattle.table.specs.Form.{sized}

-- the numbers of a slot are within its arrays
unfoldable pub sound_slots : List Slot → Bool
sound_slots [] = true
sound_slots (s ∷ l) =
    elim (leb s.key.len 8) [
      | false ↦ false
      | true ↦
          elim (leb s.value.len 16) [ false ↦ false | true ↦ sound_slots l ]
    ]

-- the count is within the slots, and so is each slot in use
unfoldable pub sound : Decoded → Bool
sound t = elim (leb t.count 4) [ false ↦ false | true ↦ sound_slots (take t.count t.slots) ]

-- whether the key of one slot is before that of another
abbrev pub before : Slot → Slot → Bool
before s r = is_lt (order (key_bytes s.key) (key_bytes r.key))

-- a decoded table has at most four entries, whatever the test says
pub record Sized (t : List Entry) (r : Bool) : Type 0 where
  pub is : r ≡ sized 16 t
  pub few : length t ≤ 4
