-- What decoded keys, values and tables stand for, whatever numbers they hold: a length or a count above the room counts as all of it.
use Rattle.std.specs.Prelude.{◌≡◌, List, [], map, ℕ, ◌≤◌, length, take, replicate}
use Rattle.std.specs.Prelude.{Option as Maybe, Some, None}
use Rattle.std.proofs.Math.Option.{Option, none, some}
use Rattle.entries.specs.declared.Text.{Text}
use Rattle.entries.specs.declared.Slot.{Slot}
use Rattle.entries.specs.declared.Decoded.{Decoded}
use Rattle.entries.specs.Entries.{Entry, entry}

-- a key has room for eight bytes, a value for sixteen
abbrev pub Key : Type 0
Key = Text 8

abbrev pub Value : Type 0
Value = Text 16

-- a value, or none where it is absent
abbrev pub Item : Type 0
Item = Maybe Value

unfoldable pub text_bytes : {room : ℕ} → Text room → List ℕ
text_bytes t = take t.len t.bytes

abbrev pub key_bytes : Key → List ℕ
key_bytes k = text_bytes k

abbrev pub value_bytes : Value → List ℕ
value_bytes v = text_bytes v

unfoldable pub item_in : Item → Option (List ℕ)
item_in (Some v) = some (value_bytes v)
item_in None = none

-- what the code makes where there is no key, no value, or nothing in a slot
abbrev pub empty_text : (room : ℕ) → Text room
empty_text room = record { bytes = replicate room 0; len = 0 }

abbrev pub no_key : Key
no_key = empty_text 8

abbrev pub no_value : Value
no_value = empty_text 16

abbrev pub no_slot : Slot
no_slot = record { key = no_key; value = no_value }

unfoldable pub entry_in : Slot → Entry
entry_in s = entry (key_bytes s.key) (value_bytes s.value)

unfoldable pub table_in : Decoded → List Entry
table_in t = take t.count (map entry_in t.slots)

-- what an array's slots are taken to be past its end
abbrev pub blank : Slot
blank = record { key = record { bytes = []; len = 0 }; value = record { bytes = []; len = 0 } }

-- a length that is at most its room
pub record Cut {A : Type 0} (top : ℕ) (l : List A) (r : ℕ) : Type 0 where
  pub is : r ≡ length l
  pub low : r ≤ top

-- the number of a table's entries; a decoded table has four slots, used or not
pub record Counted (t : Decoded) (r : ℕ) : Type 0 where
  pub is : r ≡ length (table_in t)
  pub low : r ≤ 4
  pub four : length t.slots ≡ 4
