-- What the calls on lent bytes answer, and what the lent bytes hold afterwards.
use Rattle.std.specs.Prelude.{◌≡◌, List, [], ◌∷◌, map, Bool, true, false, ℕ, ◌≤◌, leb, length, take, Result, Ok, Err, IfOk, IfSome}
use Rattle.std.proofs.Math.Option.{Option, none, some}
use Rattle.entries.specs.Decoded.{Key, Value, Item, key_bytes, item_in}
use Rattle.entries.specs.Entries.{value_of, remove, stored, keys_of}
use Rattle.table.specs.Form.{max_key, within, bucket_bytes, read_bucket}
use Rattle.bucket.specs.declared.Malformed.{Malformed}
use Rattle.bucket.specs.Answers.{Numbered, numbered, outcome_number}
use Rattle.bucket_calls.specs.declared.ChangeError.{ChangeError}
use Rattle.bucket_calls.specs.declared.ChangeError.TheVariants as change_error
use Rattle.bucket_calls.specs.declared.KeyList.{KeyList}

-- ---- searching

-- a number with the value that was found
pub record Looked : Type 0 where
  pub number : ℕ
  pub value : Option (List ℕ)

abbrev pub looked : ℕ → Option (List ℕ) → Looked
looked n v = record { number = n; value = v }

-- the value of key k in bucket b, none where k is absent
unfoldable pub look_of : List ℕ → List ℕ → Looked
look_of b k = elim (read_bucket 4 16 b) [ none ↦ looked 13 none | some t ↦ looked 0 (value_of k t) ]

-- the value that a look-up answers; none where the bucket is refused, too
abbrev pub value_told : Result Item Malformed → Option (List ℕ)
value_told (Ok i) = item_in i
value_told (Err e) = none

-- what a look-up answers; the length of its value is within the array
pub record LookedUp (b k : List ℕ) (r : Result Item Malformed) : Type 0 where
  pub is : looked (outcome_number r) (value_told r) ≡ look_of b k
  pub within : IfOk r (λ i. IfSome i (λ v. v.len ≤ 16))

-- ---- changing

-- `full` is no refusal: its number is above those of all refusals
abbrev pub full_number : ℕ
full_number = 255

-- 0 where the change was made, and refusal 13
abbrev pub change_number : Result (Unit {0}) ChangeError → ℕ
change_number (Ok u) = 0
change_number (Err change_error.Full) = full_number
change_number (Err change_error.Malformed) = 13

-- a key of 1 to 8 bytes, a value of at most 16
unfoldable pub storable : List ℕ → List ℕ → Bool
storable k v = elim (within max_key (length k)) [ false ↦ false | true ↦ leb (length v) 16 ]

-- `set` on bucket b, with a value that is there and may have no bytes
unfoldable pub put_in : List ℕ → List ℕ → List ℕ → Numbered
put_in b k v =
    elim (read_bucket 4 16 b) [
      | none ↦ numbered 13 b
      | some t ↦
          elim (stored 4 k (some v) t) [ none ↦ numbered full_number b | some u ↦ numbered 0 (bucket_bytes 4 16 u) ]
    ]

unfoldable pub put_of : List ℕ → List ℕ → List ℕ → Numbered
put_of b k v = elim (storable k v) [ false ↦ numbered 13 b | true ↦ put_in b k v ]

unfoldable pub remove_of : List ℕ → List ℕ → Numbered
remove_of b k = elim (read_bucket 4 16 b) [ none ↦ numbered 13 b | some t ↦ numbered 0 (bucket_bytes 4 16 (remove k t)) ]

-- ---- listing

pub record Listed : Type 0 where
  pub number : ℕ
  pub keys : List (List ℕ)

abbrev pub listed : ℕ → List (List ℕ) → Listed
listed n k = record { number = n; keys = k }

unfoldable pub keys_in : KeyList → List (List ℕ)
keys_in l = take l.count (map key_bytes l.keys)

-- the keys that a listing answers; none where the bucket is refused
abbrev pub keys_told : Result KeyList Malformed → List (List ℕ)
keys_told (Ok l) = keys_in l
keys_told (Err e) = []

unfoldable pub list_of : List ℕ → Listed
list_of b = elim (read_bucket 4 16 b) [ none ↦ listed 13 [] | some t ↦ listed 0 (keys_of t) ]

-- the lengths of keys are within their arrays
abbrev pub Short : List Key → Type 0
Short [] = Unit {0}
Short (k ∷ l) = (k.len ≤ 8) × Short l

-- what a listing answers; its count is within the keys, and the length of every one of them, in use or not, within its array
pub record KeysListed (b : List ℕ) (r : Result KeyList Malformed) : Type 0 where
  pub is : listed (outcome_number r) (keys_told r) ≡ list_of b
  pub count : IfOk r (λ l. l.count ≤ 4)
  pub lengths : IfOk r (λ l. Short l.keys)
