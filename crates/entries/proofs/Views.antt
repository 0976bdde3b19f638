-- What is known of a decoded key, value or table from its length.
use mathlib.Core.Path.{◌≡◌, refl, ◌∙◌}
use mathlib.Core.List.{List, ◌∷◌, map}
use mathlib.Core.Option.{none}
use Prim.Native.Nat.{ℕ, ◌≤◌, ◌<◌, ◌+◌}
use native.Mathlib.Omega.{arith}
use native.Mathlib.Numerals.{add-one}
use lib.ListN.{length, take, drop, get_or, length-take, length-map, get_or-map}
use lib.Seq.{drop-cons, get_or-take}
use Rattle.std.specs.Prelude.{None}
use Rattle.entries.specs.declared.Text.{Text}
use Rattle.entries.specs.declared.Slot.{Slot}
use Rattle.entries.specs.declared.Decoded.{Decoded}
use Rattle.entries.specs.Entries.{Entry}
use Rattle.entries.specs.Decoded.{Cut, Counted, text_bytes, item_in, entry_in, table_in, blank}
use Rattle.entries.proofs.Lists.{take_as_many, as_many_within}

-- as many of its bytes as a text is long are the text, and it has as many
pub text_whole : {room : ℕ} (t : Text room) {top n : ℕ} → Cut top (text_bytes t) n → take n t.bytes ≡ text_bytes t
unfolding text_bytes
text_whole t {top} {n} c = take_as_many n t.len t.bytes c.is

pub text_within : {room : ℕ} (t : Text room) {top n : ℕ} → Cut top (text_bytes t) n → n ≤ length t.bytes
unfolding text_bytes
text_within t {top} {n} c = as_many_within n t.len t.bytes c.is

pub absent_none : item_in None ≡ none
unfolding item_in
absent_none = refl

-- the entries of the first n slots
abbrev pub entries_in : ℕ → List Slot → List Entry
entries_in n l = take n (map entry_in l)

-- as many of its slots as a table has entries are the table
pub table_whole : (t : Decoded) {n : ℕ} → Counted t n → entries_in n t.slots ≡ table_in t
unfolding table_in
table_whole t {n} c = take_as_many n t.count (map entry_in t.slots) c.is

pub length_entries : (n : ℕ) (l : List Slot) → n ≤ length l → length (entries_in n l) ≡ n
length_entries n l h = simp (length-take, length-map) (omega arith)

-- the entries from that of slot i on
pub next_entry : (n : ℕ) (l : List Slot) (i : ℕ) → i < n → n ≤ length l → drop i (entries_in n l) ≡ entry_in (get_or l i blank) ∷ drop (i + 1) (entries_in n l)
next_entry n l i h k =
    rw (add-one i, drop-cons (entries_in n l) i (entry_in blank) (rw (length_entries n l k) h), get_or-take n (map entry_in l) i (entry_in blank) h, get_or-map entry_in l i blank)

-- the same of all of a list of slots
pub next_slot : (l : List Slot) (i : ℕ) → i < length l → drop i (map entry_in l) ≡ entry_in (get_or l i blank) ∷ drop (i + 1) (map entry_in l)
next_slot l i h = rw (add-one i, drop-cons (map entry_in l) i (entry_in blank) (rw length-map h), get_or-map entry_in l i blank)

pub entry_at : (t : Decoded) (i : ℕ) → i < length (table_in t) → get_or (table_in t) i (entry_in blank) ≡ entry_in (get_or t.slots i blank)
unfolding table_in
entry_at t i h =
    let n : i < t.count = omega (arith, length-take t.count (map entry_in t.slots)) in
    get_or-take t.count (map entry_in t.slots) i (entry_in blank) n ∙ get_or-map entry_in t.slots i blank
