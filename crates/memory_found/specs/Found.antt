-- What a call found, as bytes: the number of items, then for each its length and its bytes.
use Rattle.std.specs.Prelude.{List, [], ◌∷◌, ◌++◌, ℕ, zero, suc, ◌+◌, ◌*◌, min, length, take, drop, get_or}

-- the most items, the bytes of the longest key with its length, and those of the array
abbrev pub most_items : ℕ
most_items = 4

abbrev pub item_room : ℕ
item_room = 9

abbrev pub found_len : ℕ
found_len = 1 + most_items * item_room

-- the bytes of items without their number, and with it
unfoldable pub items_form : List (List ℕ) → List ℕ
items_form [] = []
items_form (x ∷ l) = (length x ∷ x) ++ items_form l

unfoldable pub found_form : List (List ℕ) → List ℕ
found_form l = length l ∷ items_form l

-- the n items that any bytes stand for: where a length says more than is left, all that is left counts
unfoldable pub items_in : ℕ → List ℕ → List (List ℕ)
items_in zero b = []
items_in (suc n) b = take (get_or b 0 0) (drop 1 b) ∷ items_in n (drop (get_or b 0 0) (drop 1 b))

-- a number above the room counts as all of it
unfoldable pub found_in : List ℕ → List (List ℕ)
found_in b = items_in (min most_items (get_or b 0 0)) (drop 1 b)

-- the array with these items at its front, the rest as it was
unfoldable pub put_found : List ℕ → List (List ℕ) → List ℕ
put_found b l = found_form l ++ drop (length (found_form l)) b
