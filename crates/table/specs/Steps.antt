-- What a pass of the writer leaves, and what the reader gives.
use Rattle.std.specs.Prelude.{◌≡◌, List, [], ◌∷◌, ◌++◌, ℕ, ◌≤◌, ◌+◌, ◌*◌, length, take, drop}
use Rattle.std.proofs.lemmas.List.Edits.{sets}
use Rattle.entries.specs.declared.Slot.{Slot}
use Rattle.entries.specs.declared.Decoded.{Decoded}
use Rattle.entries.specs.Entries.{Entry, entry}
use Rattle.entries.specs.Decoded.{key_bytes, value_bytes, entry_in, table_in}
use Rattle.table.specs.Form.{body, table_of}

-- the offsets and lengths of slot s stand in place i, and the next key begins at r
pub record Offsets (i at : ℕ) (s : Slot) (before after : List ℕ) (r : ℕ) : Type 0 where
  pub key : length (key_bytes s.key) ≤ 8
  pub value : length (value_bytes s.value) ≤ 16
  pub next : r ≡ at + length (key_bytes s.key) + length (value_bytes s.value)
  pub is :
      after ≡ sets before (1 + 4 * i) (at ∷ (length (key_bytes s.key) ∷ ((at + length (key_bytes s.key)) ∷ (length (value_bytes s.value) ∷ []))))

-- the key and the value of slot s stand from `at` on, and end at r
pub record Entered (at : ℕ) (s : Slot) (before after : List ℕ) (r : ℕ) : Type 0 where
  pub key : length (key_bytes s.key) ≤ 8
  pub value : length (value_bytes s.value) ≤ 16
  pub next : r ≡ at + length (key_bytes s.key) + length (value_bytes s.value)
  pub is : after ≡ sets before at (key_bytes s.key ++ value_bytes s.value)

-- the keys and values of t stand after its offsets and lengths, and end at r, within the form's room
pub record Bodied (t : List Entry) (before after : List ℕ) (r : ℕ) : Type 0 where
  pub is : after ≡ sets before (1 + 4 * length t) (body t)
  pub ends : r ≡ 1 + 4 * length t + length (body t)
  pub low : r ≤ 113

-- the entry of a key of k bytes from `at` on and a value of the v after them; its lengths are within its arrays
pub record CutOut (b : List ℕ) (at k v : ℕ) (s : Slot) : Type 0 where
  pub is : entry_in s ≡ entry (take k (drop at b)) (take v (drop k (drop at b)))
  pub key_top : s.key.len ≤ 8
  pub value_top : s.value.len ≤ 16

-- the lengths of slots are within their arrays
abbrev pub Bounded : List Slot → Type 0
Bounded [] = Unit {0}
Bounded (s ∷ l) = (s.key.len ≤ 8) × ((s.value.len ≤ 16) × Bounded l)

-- the table that bytes stand for; its count is within the slots, and so are the lengths of each slot in use
pub record Decodes (b : List ℕ) (r : Decoded) : Type 0 where
  pub table : table_in r ≡ table_of 4 16 b
  pub count : r.count ≤ 4
  pub lengths : Bounded (take r.count r.slots)
