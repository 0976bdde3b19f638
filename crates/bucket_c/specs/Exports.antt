-- What the exported calls say, over the definitions of the calls on lent bytes.
use Rattle.std.specs.Prelude.{List, [], ◌∷◌, ◌++◌, true, false, ℕ, zero, suc, ◌+◌, ◌*◌, leb, length, get_or, drop}
use Rattle.std.proofs.Math.Option.{none, some}
use Rattle.entries.specs.declared.Text.{Text}
use Rattle.entries.specs.declared.Slot.{Slot}
use Rattle.entries.specs.declared.Decoded.{Decoded}
use Rattle.entries.specs.Entries.{value_of, keys_of}
use Rattle.table.specs.Form.{read_bucket}
use Rattle.bucket.specs.Answers.{Numbered, numbered}

-- ---- a table in two slices

-- n bytes from `at` on, zeros where there are none
unfoldable pub window : ℕ → ℕ → List ℕ → List ℕ
window zero at l = []
window (suc n) at l = get_or l at 0 ∷ window n (suc at) l

abbrev pub text_from : (room : ℕ) → List ℕ → ℕ → ℕ → Text room
text_from room l at n = record { bytes = window room at l; len = n }

-- entry i: its lengths at 2i and 2i + 1, its key at 24i and its value at 24i + 8
abbrev pub slot_from : List ℕ → List ℕ → ℕ → Slot
slot_from h l i = record { key = text_from 8 l (24 * i) (get_or h (2 * i) 0); value = text_from 16 l (24 * i + 8) (get_or h (2 * i + 1) 0) }

unfoldable pub table_from : ℕ → List ℕ → List ℕ → Decoded
table_from n h l = record { count = n; slots = slot_from h l 0 ∷ (slot_from h l 1 ∷ (slot_from h l 2 ∷ (slot_from h l 3 ∷ []))) }

-- ---- bytes, written out

-- number n, and bytes w before what stood behind them; 115 where there is no room for w, and nothing changes
unfoldable pub written_out : ℕ → List ℕ → List ℕ → Numbered
written_out n w out = elim (leb (length w) (length out)) [ false ↦ numbered 115 out | true ↦ numbered n (w ++ drop (length w) out) ]

-- an absent key is no refusal: its number is above those of all refusals, and no length of a value
abbrev pub absent_number : ℕ
absent_number = 254

-- a key's value, written out with its length; 113 where the bucket is refused
unfoldable pub get_of : List ℕ → List ℕ → List ℕ → Numbered
get_of b k out =
    elim (read_bucket 4 16 b) [
      | none ↦ numbered 113 out
      | some t ↦
          elim (value_of k t) [ none ↦ numbered absent_number out | some v ↦ written_out (length v) v out ]
    ]

-- each key behind its length
unfoldable pub keys_bytes : List (List ℕ) → List ℕ
keys_bytes [] = []
keys_bytes (k ∷ l) = length k ∷ (k ++ keys_bytes l)

-- the keys, written out with how many they are; 113 where the bucket is refused
unfoldable pub keys_out : List ℕ → List ℕ → Numbered
keys_out b out =
    elim (read_bucket 4 16 b) [
      | none ↦ numbered 113 out
      | some t ↦ written_out (length t) (keys_bytes (keys_of t)) out
    ]
