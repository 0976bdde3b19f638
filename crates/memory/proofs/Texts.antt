-- The words of a call stored are read back, those of other slots stay, and so do the other records of the slots.
use mathlib.Core.Path.{◌≡◌, refl, ap, ◌∙◌}
use mathlib.Core.Logic.{◌≢◌}
use mathlib.Core.List.{List}
use mathlib.Core.Option.{some}
use Prim.Native.Nat.{ℕ, zero, suc, ◌+◌, ◌-◌, ◌*◌, ◌≤◌, ◌<◌}
use native.Mathlib.Numerals.{add-one}
use native.Mathlib.Omega.{arith}
use lib.ListN.{length, take, drop}
use lib.Seq.{paste, length-paste}
use Rattle.std.specs.Prelude.{Some, None}
use Rattle.entries.specs.Decoded.{Key, Value, Item, text_bytes, key_bytes, value_bytes, item_in}
use Rattle.entries.proofs.Lists.{take_as_many}
use Rattle.server.specs.Views.{words_in}
use Rattle.server.proofs.WordLaws.{words_alike}
use Rattle.server.specs.declared.Version.{Version}
use Rattle.server.specs.declared.Round.{Round}
use Rattle.server.specs.declared.Call.{Call}
use Rattle.server.specs.declared.Words.{Words}
use Rattle.memory.specs.Layout.{slot_size, text_size, key_room, value_room, key_place, expected_place, value_place, version_at, put_version, round_at, put_round, call_at, put_call, item_word, value_from, item_from, stored_value, numbers_in, words_at, put_words, put_texts, Whole}
use Rattle.memory.proofs.Parts.{part_pasted, part_before, part_elsewhere}
use Rattle.memory.proofs.Records.{length-put_numbers, numbers_put_numbers, numbers_elsewhere, version_put_numbers, round_put_numbers, call_put_numbers, numbers_put_version, numbers_put_round, numbers_put_call}

-- ---- the bytes

module _ (m : List ℕ) (i : ℕ) (w : Words) (fits : (i + 1) * text_size ≤ length m) (whole : Whole w) where
  -- after the key, and after the expected value
  one : List ℕ
  one = paste m (i * text_size + key_place) w.key.bytes key_room

  two : List ℕ
  two = paste one (i * text_size + expected_place) (stored_value w.expected).bytes value_room

  length_one : length one ≡ length m
  unfolding one
  length_one = let h = whole.key_length in length-paste m (i * text_size + key_place) w.key.bytes key_room (omega arith) (omega arith)

  length_two : length two ≡ length m
  unfolding two
  length_two =
      let h = whole.expected_length in
      let l = length_one in
      length-paste one (i * text_size + expected_place) (stored_value w.expected).bytes value_room (omega arith) (omega arith) ∙ length_one

  pub length-put_texts : length (put_texts m i w) ≡ length m
  unfolding put_texts one two
  length-put_texts =
      let h = whole.value_length in
      let l = length_two in
      length-paste two (i * text_size + value_place) (stored_value w.value).bytes value_room (omega arith) (omega arith) ∙ length_two

  key_bytes_lem : take key_room (drop (i * text_size + key_place) (put_texts m i w)) ≡ w.key.bytes
  unfolding put_texts one two
  key_bytes_lem =
      let l = length_one in
      let k = length_two in
      part_before two (i * text_size + value_place) (stored_value w.value).bytes value_room (omega arith) whole.value_length (i * text_size + key_place) key_room (omega arith)
      ∙ part_before one (i * text_size + expected_place) (stored_value w.expected).bytes value_room (omega arith) whole.expected_length (i * text_size + key_place) key_room (omega arith)
      ∙ part_pasted m (i * text_size + key_place) w.key.bytes key_room (omega arith) whole.key_length

  expected_bytes : take value_room (drop (i * text_size + expected_place) (put_texts m i w)) ≡ (stored_value w.expected).bytes
  unfolding put_texts one two
  expected_bytes =
      let l = length_one in
      let k = length_two in
      part_before two (i * text_size + value_place) (stored_value w.value).bytes value_room (omega arith) whole.value_length (i * text_size + expected_place) value_room (omega arith)
      ∙ part_pasted one (i * text_size + expected_place) (stored_value w.expected).bytes value_room (omega arith) whole.expected_length

  value_bytes_lem : take value_room (drop (i * text_size + value_place) (put_texts m i w)) ≡ (stored_value w.value).bytes
  unfolding put_texts one two
  value_bytes_lem = let k = length_two in part_pasted two (i * text_size + value_place) (stored_value w.value).bytes value_room (omega arith) whole.value_length

  -- any bytes of another block
  texts_elsewhere : (k r n : ℕ) → r + n ≤ text_size → k ≢ i → take n (drop (k * text_size + r) (put_texts m i w)) ≡ take n (drop (k * text_size + r) m)
  unfolding put_texts one two
  texts_elsewhere k r n inside different =
      let l = length_one in
      let l2 = length_two in
      part_elsewhere text_size k i r n value_place two (stored_value w.value).bytes value_room inside (omega arith) (omega arith) whole.value_length different
      ∙ part_elsewhere text_size k i r n expected_place one (stored_value w.expected).bytes value_room inside (omega arith) (omega arith) whole.expected_length different
      ∙ part_elsewhere text_size k i r n key_place m w.key.bytes key_room inside (omega arith) fits whole.key_length different

-- ---- the words

-- a key by its length and its bytes, and a value by its word and its bytes
key_back : (k : Key) (l : List ℕ) → l ≡ k.bytes → key_bytes (record { bytes = l; len = length (key_bytes k) }) ≡ key_bytes k
unfolding text_bytes
key_back k l e = rw e (take_as_many _ k.len k.bytes refl)

value_back : (v : Value) (l : List ℕ) (n : ℕ) → l ≡ v.bytes → n ≡ length (value_bytes v) → value_bytes (record { bytes = l; len = n }) ≡ value_bytes v
unfolding text_bytes
value_back v l n e h = rw e (take_as_many n v.len v.bytes h)

item_back : (i : Item) (m : List ℕ) (p : ℕ) → take value_room (drop p m) ≡ (stored_value i).bytes → item_in (item_from m p (item_word i)) ≡ item_in i
unfolding item_in item_word
item_back (Some v) m p e = rw add-one (ap some (value_back v _ (length (value_bytes v)) e refl))
item_back None m p e = refl

-- a value of the same bytes by the same word
item_alike : (m m' : List ℕ) (p x : ℕ) → take value_room (drop p m') ≡ take value_room (drop p m) → item_from m' p x ≡ item_from m p x
item_alike m m' p zero e = refl
item_alike m m' p (suc len) e = rw e

-- a value whose word is not 0 is there
pub item_there : (m : List ℕ) (p x : ℕ) → 0 < x → item_from m p x ≡ Some (value_from m p (x - 1))
item_there m p zero h = absurd (omega arith)
item_there m p (suc len) h = let e : suc len - 1 ≡ len = omega arith in rw e

module _ (l m : List ℕ) (i : ℕ) (w : Words) (whole : Whole w) where
  pub words_put_words : (i + 1) * slot_size ≤ length l → (i + 1) * text_size ≤ length m → words_in (words_at (put_words l i w) (put_texts m i w) i) ≡ words_in w
  unfolding words_at put_words
  words_put_words slots texts =
      rw (numbers_put_numbers l i (numbers_in w) slots)
      (words_alike _ w refl refl
      (key_back w.key _ (key_bytes_lem m i w texts whole))
      (item_back w.expected (put_texts m i w) (i * text_size + expected_place) (expected_bytes m i w texts whole))
      (item_back w.value (put_texts m i w) (i * text_size + value_place) (value_bytes_lem m i w texts whole)))

  pub words_elsewhere : (k : ℕ) → (i + 1) * text_size ≤ length m → k ≢ i → words_at (put_words l i w) (put_texts m i w) k ≡ words_at l m k
  unfolding words_at put_words
  words_elsewhere k texts different =
      rw (
        numbers_elsewhere l i (numbers_in w) k different,
        texts_elsewhere m i w texts whole k key_place key_room (omega arith) different,
        item_alike m (put_texts m i w) (k * text_size + expected_place) _ (texts_elsewhere m i w texts whole k expected_place value_room (omega arith) different),
        item_alike m (put_texts m i w) (k * text_size + value_place) _ (texts_elsewhere m i w texts whole k value_place value_room (omega arith) different),
      )

-- ---- the other records of the slots

module _ (l : List ℕ) (i : ℕ) (w : Words) where
  pub length-put_words : length (put_words l i w) ≡ length l
  unfolding put_words
  length-put_words = length-put_numbers l i (numbers_in w)

  pub version_put_words : (k : ℕ) → version_at (put_words l i w) k ≡ version_at l k
  unfolding put_words
  version_put_words k = version_put_numbers l i (numbers_in w) k

  pub round_put_words : (k : ℕ) → round_at (put_words l i w) k ≡ round_at l k
  unfolding put_words
  round_put_words k = round_put_numbers l i (numbers_in w) k

  pub call_put_words : (k : ℕ) → call_at (put_words l i w) k ≡ call_at l k
  unfolding put_words
  call_put_words k = call_put_numbers l i (numbers_in w) k

module _ (l m : List ℕ) (i k : ℕ) where
  pub words_put_version : (v : Version) → words_at (put_version l i v) m k ≡ words_at l m k
  unfolding words_at
  words_put_version v = rw (numbers_put_version l i v k)

  pub words_put_round : (r : Round) → words_at (put_round l i r) m k ≡ words_at l m k
  unfolding words_at
  words_put_round r = rw (numbers_put_round l i r k)

  pub words_put_call : (c : Call) → words_at (put_call l i c) m k ≡ words_at l m k
  unfolding words_at
  words_put_call c = rw (numbers_put_call l i c k)
