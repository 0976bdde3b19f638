-- The words of a call by value, and those of its line: where its lengths are not refused, they are the same.
use Rattle.std.proofs.Common.{◌≡◌, ℕ, ◌-◌, ◌≤◌, Bool, true, false, eqb, ltb, leb, List, [], length, sym, refl, ap, ◌∙◌, ap₂, append-nil, arith, length-append, length-take, ltb-false}
use mathlib.Core.Option.{some}
use borrow.Author.Tests.{lt-leb, eqb-false}
use lib.ListN.{length-replicate}
use Rattle.hash.specs.Fnv.{bucket_of}
use Rattle.std.specs.Prelude.{Some, None, if◌then◌else◌}
use Rattle.entries.specs.Decoded.{Key, Value, Item, text_bytes, key_bytes, value_bytes, item_in, no_key}
use Rattle.model.specs.Calls as calls
use Rattle.model.specs.Cluster as cluster
use Rattle.model.specs.Lines as lines
use Rattle.limits.proofs.Always.{bucket_less}
use Rattle.limits.specs.Measures.{KeySized, ValueSized, WordsSized}
use Rattle.server.specs.declared.Words.{Words}
use Rattle.server.specs.Views.{among, words_by, words_in}
use Rattle.memory.specs.declared.Counts.{Counts}
use Rattle.memory.specs.Layout.{Whole, stored_value}
use Rattle.parse.specs.Kept.{key_in, value_in, given_in}
use Rattle.parse.specs.Meaning.{expected_item, new_item}
use Rattle.plans.specs.Plans.{bad_key, bad_item, bad_lengths, call_bucket}
use Rattle.parse.specs.declared.Kind.TheVariants as K
use Rattle.parse.specs.declared.Line.{Line}
use Rattle.runs.specs.Runs.{words_with, words_of}
use Rattle.runs.specs.Meaning.{WholeLine}

-- words whose lengths are not refused
pub record Fine (w : Words) (words : calls.Words) : Type 0 where
  pub same : words ≡ words_in w
  pub whole : Whole w
  pub sized : WordsSized words
  pub bucket : (c : Counts) → calls.bucket_for c.buckets words ≡ call_bucket c w

-- words by value that stand for the words of a line
pub record Said (w : Words) (words : calls.Words) : Type 0 where
  pub live : among 5 w.kind ≡ true
  pub bad : lines.bad_words words ≡ bad_lengths w
  pub buckets : (x : cluster.Cluster) (c : Counts) → x.buckets ≡ c.buckets → 1 ≤ c.buckets → lines.no_bucket_for x words ≡ leb c.buckets (call_bucket c w)
  pub fine : bad_lengths w ≡ false → Fine w words

-- ---- keys and values

module _ (k : Key) (room : length k.bytes ≡ 8) where
  length_key : length (key_in k) ≡ k.len
  unfolding key_in text_bytes
  length_key = simp (length-append, length-take, length-replicate) (omega arith)

  key_refused : lines.bad_key (key_in k) ≡ bad_key k.len
  unfolding lines.bad_key bad_key lines.either
  key_refused = rw length_key (elim (eqb k.len 0) as (λ z. lines.either z (ltb 8 k.len) ≡ elim z [ true ↦ true | false ↦ ltb 8 k.len ]) [ true ↦ refl | false ↦ refl ])

  key_same : k.len ≤ 8 → key_in k ≡ key_bytes k
  unfolding key_in
  key_same h = let z : k.len - 8 ≡ 0 = omega arith in rw (z, append-nil)

module _ (v : Value) (room : length v.bytes ≡ 16) where
  length_value : length (value_in v) ≡ v.len
  unfolding value_in text_bytes
  length_value = simp (length-append, length-take, length-replicate) (omega arith)

  value_same : v.len ≤ 16 → value_in v ≡ value_bytes v
  unfolding value_in
  value_same h = let z : v.len - 16 ≡ 0 = omega arith in rw (z, append-nil)

-- the same of a value that may be absent
item_refused : (i : Item) → length (stored_value i).bytes ≡ 16 → lines.bad_value (given_in i) ≡ bad_item i
unfolding lines.bad_value given_in bad_item
item_refused (Some v) room = ap (ltb 16) (length_value v room)
item_refused None room = refl

item_same : (i : Item) → length (stored_value i).bytes ≡ 16 → bad_item i ≡ false → given_in i ≡ item_in i
unfolding given_in item_in bad_item
item_same (Some v) room good = ap some (value_same v room (ltb-false 16 _ good))
item_same None room good = refl

item_sized : (i : Item) → length (stored_value i).bytes ≡ 16 → bad_item i ≡ false → ValueSized (given_in i)
unfolding given_in bad_item
item_sized (Some v) room good = omega (arith, length_value v room, ltb-false 16 v.len good)
item_sized None room good = tt

-- the lengths of a key
key_lengths : (n : ℕ) → bad_key n ≡ false → (1 ≤ n) × (n ≤ 8)
unfolding bad_key
key_lengths n h = go (eqb n 0) refl
  where
    go : (z : Bool) → eqb n 0 ≡ z → (1 ≤ n) × (n ≤ 8)
    go true e = let z : ◌≡◌ {A = ℕ} 0 1 = cc (rw (bad_key, e) at h) in absurd (omega arith)
    go false e = (omega (arith, eqb-false n 0 e), ltb-false 8 n (rw (bad_key, e) at h))

key_sized : (k : Key) → length k.bytes ≡ 8 → bad_key k.len ≡ false → KeySized (key_in k)
key_sized k room h = let (lo, hi) = key_lengths k.len h in (omega (arith, length_key k room), omega (arith, length_key k room))

-- a key's bucket is there
key_bucket : (n : ℕ) (k : List ℕ) → 1 ≤ n → leb n (bucket_of n k) ≡ false
unfolding lines.no_bucket_for calls.bucket_for
key_bucket n k h = lt-leb n (bucket_of n k) (bucket_less (record { servers = []; buckets = n; messages = []; accepted = 0; calls = 0 }) (calls.get k) h refl)

-- ---- lengths that are not refused

-- of a key, an expected value and a value
record Short (k : ℕ) (e v : Item) : Type 0 where
  key : bad_key k ≡ false
  expected : bad_item e ≡ false
  value : bad_item v ≡ false

none_of_three : (x y z : Bool) → elim x [ true ↦ true | false ↦ elim y [ true ↦ true | false ↦ z ] ] ≡ false → (x ≡ false) × (y ≡ false) × (z ≡ false)
none_of_three true y z h = let w : ◌≡◌ {A = ℕ} 0 1 = cc in absurd (omega arith)
none_of_three false true z h = let w : ◌≡◌ {A = ℕ} 0 1 = cc in absurd (omega arith)
none_of_three false false z h = (refl, refl, h)

short : (k : ℕ) (e v : Item) → elim (bad_key k) [ true ↦ true | false ↦ elim (bad_item e) [ true ↦ true | false ↦ bad_item v ] ] ≡ false → Short k e v
short k e v h =
    let (x, y, z) = none_of_three (bad_key k) (bad_item e) (bad_item v) h in
    record { key = x; expected = y; value = z }

either_else : (x y : Bool) → lines.either x y ≡ elim x [ true ↦ true | false ↦ y ]
unfolding lines.either
either_else true y = refl
either_else false y = refl

-- ---- the five calls

module _ (k : Key) (room : length k.bytes ≡ 8) (e v : Item) (roomE : length (stored_value e).bytes ≡ 16) (roomV : length (stored_value v).bytes ≡ 16) where
  abbrev Fits : Type 0
  Fits = Short k.len e v

  same_key : Fits → key_in k ≡ key_bytes k
  same_key s = key_same k room (key_lengths k.len s.key).1

  sized_key : Fits → KeySized (key_in k)
  sized_key s = key_sized k room s.key

  -- a call with a key, by its kind
  keyed : (kind : ℕ) (words : calls.Words) → among 5 kind ≡ true → eqb kind 5 ≡ false
      → lines.bad_words words ≡ elim (bad_key k.len) [ true ↦ true | false ↦ elim (bad_item e) [ true ↦ true | false ↦ bad_item v ] ]
      → ((x : cluster.Cluster) → lines.no_bucket_for x words ≡ false) → ((n : ℕ) → calls.bucket_for n words ≡ bucket_of n (key_in k))
      → (Fits → words ≡ words_in (words_with kind 0 k e v)) → (Fits → WordsSized words) → Said (words_with kind 0 k e v) words
  keyed kind words live other bad there bucket same sized =
      record {
        live = live;
        bad = bad ∙ sym lengths;
        buckets = λ x c d h. there x ∙ sym (ap (leb c.buckets) (bucketed c) ∙ key_bucket c.buckets (key_bytes k) h);
        fine = λ h.
            let s = short k.len e v (sym lengths ∙ h) in
            record {
              same = same s;
              whole = record { key_length = room; expected_length = roomE; value_length = roomV };
              sized = sized s;
              bucket = λ c. bucket c.buckets ∙ (ap (bucket_of c.buckets) (same_key s) ∙ sym (bucketed c));
            };
      }
    where
      lengths : bad_lengths (words_with kind 0 k e v) ≡ elim (bad_key k.len) [ true ↦ true | false ↦ elim (bad_item e) [ true ↦ true | false ↦ bad_item v ] ]
      lengths = unfold bad_lengths in rw (bad_lengths, other)

      bucketed : (c : Counts) → call_bucket c (words_with kind 0 k e v) ≡ bucket_of c.buckets (key_bytes k)
      bucketed c = unfold call_bucket in rw (call_bucket, other)

  said_setif : Said (words_with 3 0 k e v) (calls.setif (key_in k) (given_in e) (given_in v))
  unfolding among lines.bad_words lines.no_bucket_for calls.bucket_for words_by
  said_setif =
      keyed 3 (calls.setif (key_in k) (given_in e) (given_in v)) refl refl
      (ap₂ lines.either (key_refused k room) (ap₂ lines.either (item_refused e roomE) (item_refused v roomV) ∙ either_else (bad_item e) (bad_item v))
      ∙ either_else (bad_key k.len) (elim (bad_item e) [ true ↦ true | false ↦ bad_item v ]))
      (λ x. refl) (λ n. refl) (λ s. rw (same_key s, item_same e roomE s.expected, item_same v roomV s.value))
      (λ s. (sized_key s, item_sized e roomE s.expected, item_sized v roomV s.value))

-- a call with a key alone
key_alone : (k : Key) → length k.bytes ≡ 8 → lines.bad_key (key_in k) ≡ elim (bad_key k.len) [ true ↦ true | false ↦ false ]
key_alone k room = key_refused k room ∙ elim (bad_key k.len) as (λ z. z ≡ elim z [ true ↦ true | false ↦ false ]) [ true ↦ refl | false ↦ refl ]

module _ (k : Key) (room : length k.bytes ≡ 8) where
  said_get : Said (words_with 1 0 k None None) (calls.get (key_in k))
  unfolding among lines.bad_words lines.no_bucket_for calls.bucket_for words_by bad_item
  said_get =
      keyed k room None None refl refl 1 (calls.get (key_in k)) refl refl (key_alone k room) (λ x. refl) (λ n. refl)
      (λ s. ap calls.get (same_key k room None None refl refl s)) (sized_key k room None None refl refl)

  said_del : Said (words_with 4 0 k None None) (calls.del (key_in k))
  unfolding among lines.bad_words lines.no_bucket_for calls.bucket_for words_by bad_item
  said_del =
      keyed k room None None refl refl 4 (calls.del (key_in k)) refl refl (key_alone k room) (λ x. refl) (λ n. refl)
      (λ s. ap calls.del (same_key k room None None refl refl s)) (sized_key k room None None refl refl)

  said_set : (v : Item) → length (stored_value v).bytes ≡ 16 → Said (words_with 2 0 k None v) (calls.set (key_in k) (given_in v))
  unfolding among lines.bad_words lines.no_bucket_for calls.bucket_for words_by bad_item
  said_set v roomV =
      keyed k room None v refl roomV 2 (calls.set (key_in k) (given_in v)) refl refl
      (ap₂ lines.either (key_refused k room) (item_refused v roomV) ∙ either_else (bad_key k.len) (bad_item v)) (λ x. refl) (λ n. refl)
      (λ s. ap₂ calls.set (same_key k room None v refl roomV s) (item_same v roomV s.value))
      (λ s. (sized_key k room None v refl roomV s, item_sized v roomV s.value))

said_keys : (b : ℕ) → Said (words_with 5 b no_key None None) (calls.keys b)
unfolding among lines.bad_words bad_lengths lines.no_bucket_for lines.no_bucket call_bucket calls.bucket_for words_by
said_keys b =
    record {
      live = refl;
      bad = refl;
      buckets = λ x c e h. ap (λ n. leb n b) e;
      fine = λ h.
          record {
            same = refl;
            whole = record { key_length = refl; expected_length = refl; value_length = refl };
            sized = tt;
            bucket = λ c. refl;
          };
    }

-- ---- of a line that was read

-- a value that is there or not has sixteen bytes to store
stored_room : (there : Bool) (v : Value) → length v.bytes ≡ 16 → length (stored_value (if there then Some v else None)).bytes ≡ 16
stored_room true v room = room
stored_room false v room = refl

module _ (x : Line) (whole : WholeLine x) where
  pub get_said : Said (words_of K.Get x) (calls.get (key_in x.key))
  unfolding words_of
  get_said = said_get x.key whole.key

  pub set_said : Said (words_of K.Set x) (calls.set (key_in x.key) (given_in (new_item x)))
  unfolding words_of
  set_said = said_set x.key whole.key (new_item x) (stored_room x.has_value x.value whole.value)

  pub setif_said : Said (words_of K.SetIf x) (calls.setif (key_in x.key) (given_in (expected_item x)) (given_in (new_item x)))
  unfolding words_of
  setif_said = said_setif x.key whole.key (expected_item x) (new_item x) (stored_room x.has_expected x.expected whole.expected) (stored_room x.has_value x.value whole.value)

  pub del_said : Said (words_of K.Del x) (calls.del (key_in x.key))
  unfolding words_of
  del_said = said_del x.key whole.key

  pub keys_said : Said (words_of K.Keys x) (calls.keys x.second)
  unfolding words_of
  keys_said = said_keys x.second
