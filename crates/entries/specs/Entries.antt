-- A table: keys with their values, in rising order of key bytes. Keys and values are lists of bytes.
-- A value may have no bytes (RULES, Keys 4): `none` means that the key is absent.
use Rattle.std.specs.Prelude.{List, [], ◌∷◌, map, Bool, true, false, ℕ, ltb, length}
use Rattle.std.proofs.Math.Option.{Option, none, some}
use Rattle.std.specs.declared.cmp.Ordering.{Ordering}
use Rattle.std.specs.declared.cmp.Ordering.TheVariants.{Less, Equal, Greater}

pub record Entry : Type 0 where
  pub key : List ℕ
  pub value : List ℕ

abbrev pub entry : List ℕ → List ℕ → Entry
entry k v = record { key = k; value = v }

-- how one byte list stands to another: by the first byte that differs; a shorter list before its extensions
unfoldable pub order : List ℕ → List ℕ → Ordering
order [] [] = Equal
order [] (b ∷ m) = Less
order (a ∷ l) [] = Greater
order (a ∷ l) (b ∷ m) = elim (ltb a b) [ true ↦ Less | false ↦ elim (ltb b a) [ true ↦ Greater | false ↦ order l m ] ]

-- the value of a key, none where it is absent; the search ends at the first key that is not before it
unfoldable pub value_of : List ℕ → List Entry → Option (List ℕ)
value_of k [] = none
value_of k (e ∷ t) = elim (order k e.key) [ Less ↦ none | Equal ↦ some e.value | Greater ↦ value_of k t ]

-- whether a key stands in the table
unfoldable pub holds : List ℕ → List Entry → Bool
holds k [] = false
holds k (e ∷ t) = elim (order k e.key) [ Less ↦ false | Equal ↦ true | Greater ↦ holds k t ]

-- the table in which the key has the value, in its place
unfoldable pub put : List ℕ → List ℕ → List Entry → List Entry
put k v [] = entry k v ∷ []
put k v (e ∷ t) = elim (order k e.key) [ Less ↦ entry k v ∷ (e ∷ t) | Equal ↦ entry k v ∷ t | Greater ↦ e ∷ put k v t ]

-- the table without the key
unfoldable pub remove : List ℕ → List Entry → List Entry
remove k [] = []
remove k (e ∷ t) = elim (order k e.key) [ Less ↦ e ∷ t | Equal ↦ t | Greater ↦ e ∷ remove k t ]

-- `set K V`, with at most `most` keys: an absent value takes the key away; a new key where `most` others stand gives none,
-- which is answered `full`
unfoldable pub stored : ℕ → List ℕ → Option (List ℕ) → List Entry → Option (List Entry)
stored most k none t = some (remove k t)
stored most k (some v) t =
    elim (holds k t) [
      | true ↦ some (put k v t)
      | false ↦
          elim (ltb (length t) most) [ true ↦ some (put k v t) | false ↦ none ]
    ]

-- all keys, rising
abbrev pub keys_of : List Entry → List (List ℕ)
keys_of t = map (λ e. e.key) t
