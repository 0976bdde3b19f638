-- What the steps of writing leave, and what those of reading answer.
use Rattle.std.specs.Prelude.{◌≡◌, List, ◌∷◌, ℕ, ◌≤◌, ◌+◌, length}
use Rattle.std.proofs.lemmas.List.Edits.{sets}
use Rattle.memory_found.specs.Found.{most_items, found_len, items_form, found_in}

-- ---- writing

-- the bytes x, of which there is room for `room`, stand as an item from `at` on, and end at r
pub record ItemPut (room : ℕ) (x before : List ℕ) (at : ℕ) (after : List ℕ) (r : ℕ) : Type 0 where
  pub is : after ≡ sets before at (length x ∷ x)
  pub ends : r ≡ at + 1 + length x
  pub short : length x ≤ room

-- items stand behind their number, within the array
pub record ItemsPut (l : List (List ℕ)) (before after : List ℕ) : Type 0 where
  pub is : after ≡ sets before 1 (items_form l)
  pub within : 1 + length (items_form l) ≤ found_len

-- ---- reading

pub record FoundCount (b : List ℕ) (r : ℕ) : Type 0 where
  pub is : r ≡ length (found_in b)
  pub low : r ≤ most_items
