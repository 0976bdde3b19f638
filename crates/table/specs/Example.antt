-- Tables with values of no bytes (RULES, Keys 4), computed by the definitions.
use Rattle.std.specs.Prelude.{◌≡◌, refl, List, [], ◌∷◌, ◌++◌, true, false, ℕ, replicate}
use Rattle.std.proofs.Math.Option.{none, some}
use Rattle.entries.specs.Entries.{Entry, entry, order}
use Rattle.table.specs.Form.{bucket_size, within, rising, sized, fits, header, body, packed, bucket_bytes, entries_of, table_of, same_bytes, same_value, read_bucket}

abbrev drained : List Entry
drained = entry (0x61 ∷ []) [] ∷ entry (0x62 ∷ []) (0x01 ∷ []) ∷ []

-- a value of no bytes has the offset of the pair after it, or of the end
abbrev drained_bytes : List ℕ
drained_bytes = (0x02 ∷ 0x09 ∷ 0x01 ∷ 0x0a ∷ 0x00 ∷ 0x0a ∷ 0x01 ∷ 0x0b ∷ 0x01 ∷ 0x61 ∷ 0x62 ∷ 0x01 ∷ []) ++ replicate 101 0

abbrev last_bytes : List ℕ
last_bytes = (0x01 ∷ 0x05 ∷ 0x01 ∷ 0x06 ∷ 0x00 ∷ 0x61 ∷ []) ++ replicate 107 0

written : bucket_bytes 4 16 drained ≡ drained_bytes
unfolding bucket_size header body packed bucket_bytes
written = refl

taken : read_bucket 4 16 drained_bytes ≡ some drained
unfolding bucket_size within rising sized fits header body packed bucket_bytes entries_of table_of order same_bytes read_bucket
taken = refl

last_taken : read_bucket 4 16 last_bytes ≡ some (entry (0x61 ∷ []) [] ∷ [])
unfolding bucket_size within rising sized fits header body packed bucket_bytes entries_of table_of order same_bytes read_bucket
last_taken = refl

-- none is told from a value of no bytes
told_apart : (same_value none (some []) ≡ false) × ((same_value (some []) none ≡ false) × ((same_value none none ≡ true) × (same_value (some []) (some []) ≡ true)))
unfolding same_value same_bytes order
told_apart = (refl, (refl, (refl, refl)))
