-- The bucket form (RULES, Bucket bytes). `most` is the greatest number of keys in a bucket
-- and `long` the greatest length of a value: 4 and 16 in the rules, which makes 113 bytes.
use Rattle.std.specs.Prelude.{List, [], ◌∷◌, ◌++◌, Bool, true, false, ℕ, zero, suc, ◌+◌, ◌-◌, ◌*◌, ◌≤◌, min, leb, length, get_or, take, drop, replicate}
use Rattle.std.proofs.Math.Option.{Option, none, some}
use Rattle.std.specs.declared.cmp.Ordering.TheVariants.{Less, Equal, Greater}
use Rattle.entries.specs.Entries.{Entry, entry, order}

-- the greatest length of a key
abbrev pub max_key : ℕ
max_key = 8

-- one byte for the count, four for each entry, then room for each entry's longest key and value
unfoldable pub bucket_size : ℕ → ℕ → ℕ
bucket_size most long = 1 + 4 * most + most * (max_key + long)

-- ---- which tables have a bucket form

-- a length from 1 to top
unfoldable pub within : ℕ → ℕ → Bool
within top n = elim (leb 1 n) [ true ↦ leb n top | false ↦ false ]

-- each key is before the next, so none stands twice
unfoldable pub rising : List Entry → Bool
rising [] = true
rising (e ∷ []) = true
rising (e ∷ (f ∷ t)) = elim (order e.key f.key) [ Less ↦ rising (f ∷ t) | Equal ↦ false | Greater ↦ false ]

-- keys of 1 to 8 bytes, values of at most long
unfoldable pub sized : ℕ → List Entry → Bool
sized long [] = true
sized long (e ∷ t) =
    elim (within max_key (length e.key)) [
      | false ↦ false
      | true ↦
          elim (leb (length e.value) long) [ false ↦ false | true ↦ sized long t ]
    ]

-- a value that is there has at most long bytes; an absent one has no length
abbrev pub ValueAtMost : ℕ → Option (List ℕ) → Type 0
ValueAtMost long none = Unit {0}
ValueAtMost long (some v) = length v ≤ long

unfoldable pub fits : ℕ → ℕ → List Entry → Bool
fits most long t =
    elim (leb (length t) most) [
      | false ↦ false
      | true ↦
          elim (sized long t) [ false ↦ false | true ↦ rising t ]
    ]

-- ---- the form of a table

-- for each entry an offset and length for its key and for its value; `at` is where the first key begins, and each
-- later key or value begins where the one before it ended; so a value of no bytes has the offset of the pair after it, or of
-- the end
unfoldable pub header : ℕ → List Entry → List ℕ
header at [] = []
header at (e ∷ t) =
    let mid = at + length e.key in
    at ∷ (length e.key ∷ (mid ∷ (length e.value ∷ header (mid + length e.value) t)))

-- the bytes themselves
unfoldable pub body : List Entry → List ℕ
body [] = []
body (e ∷ t) = e.key ++ (e.value ++ body t)

-- the count, the offsets and lengths, and the bytes
unfoldable pub packed : List Entry → List ℕ
packed t = length t ∷ (header (1 + 4 * length t) t ++ body t)

-- the rest is zero
unfoldable pub bucket_bytes : ℕ → ℕ → List Entry → List ℕ
bucket_bytes most long t = packed t ++ replicate (bucket_size most long - length (packed t)) 0

-- ---- reading

-- the first n entries that lengths h and bytes d stand for, each length held to its greatest
unfoldable pub entries_of : ℕ → ℕ → List ℕ → List ℕ → List Entry
entries_of long zero h d = []
entries_of long (suc n) h d =
    let k = min max_key (get_or h 1 0) in
    let v = min long (get_or h 3 0) in
    entry (take k d) (take v (drop k d)) ∷ entries_of long n (drop 4 h) (drop (k + v) d)

-- the table that bytes stand for, whatever they are: read by the count and the lengths in them
unfoldable pub table_of : ℕ → ℕ → List ℕ → List Entry
table_of most long b =
    let n = min most (get_or b 0 0) in
    entries_of long n (drop 1 b) (drop (1 + 4 * n) b)

unfoldable pub same_bytes : List ℕ → List ℕ → Bool
same_bytes a b = elim (order a b) [ Less ↦ false | Equal ↦ true | Greater ↦ false ]

-- whether two values are the same; absent is the same as absent alone
unfoldable pub same_value : Option (List ℕ) → Option (List ℕ) → Bool
same_value none none = true
same_value none (some b) = false
same_value (some a) none = false
same_value (some a) (some b) = same_bytes a b

-- bytes are taken exactly where they are the form of a table that has one; else refusal 13
unfoldable pub read_bucket : ℕ → ℕ → List ℕ → Option (List Entry)
read_bucket most long b =
    let t = table_of most long b in
    elim (fits most long t) [
      | false ↦ none
      | true ↦
          elim (same_bytes b (bucket_bytes most long t)) [ false ↦ none | true ↦ some t ]
    ]

-- the number that reading gives: 13 where the bytes are not taken
unfoldable pub read_number : ℕ → ℕ → List ℕ → ℕ
read_number most long b = elim (read_bucket most long b) [ none ↦ 13 | some t ↦ 0 ]
