-- The definitions of the calls on lent bytes, case by case.
use mathlib.Core.Path.{◌≡◌, refl, sym, ap, ap₂, ◌∙◌}
use mathlib.Core.List.{List, [], ◌∷◌, ◌++◌, map, append-nil}
use mathlib.Core.Bool.{Bool, true, false}
use mathlib.Core.Option.{Option, none, some}
use Prim.Native.Nat.{ℕ, suc, ◌≤◌, ◌<◌}
use native.Mathlib.Omega.{arith}
use lib.ListN.{length, get_or, take, drop, drop_of_length-le}
use lib.Seq.{take_all}
use borrow.Author.Tests.{leb-true}
use Rattle.std.specs.Prelude.{Ok, Err, Some, None, IfSome, IsSomeAnd, MatchOption}
use Rattle.entries.specs.declared.Text.{Text}
use Rattle.entries.specs.declared.Slot.{Slot}
use Rattle.entries.specs.declared.Decoded.{Decoded}
use Rattle.entries.specs.Entries.{Entry, value_of, holds, remove, stored, keys_of}
use Rattle.entries.specs.Decoded.{Key, Item, Counted, text_bytes, key_bytes, item_in, entry_in, table_in, blank}
use Rattle.entries.proofs.Shifts.{map-take_lem}
use Rattle.entries.proofs.Views.{table_whole}
use Rattle.entries.proofs.Comparison.{order_same}
use Rattle.entries.proofs.Changes.{by_order, absent_value, absent_remove}
use Rattle.table.specs.Form.{max_key, bucket_size, within, bucket_bytes, read_bucket}
use Rattle.table.proofs.Fitting.{within_parts, fits_parts}
use Rattle.table.proofs.Reading.{Capped, sized_capped, length_bucket, one_form}
use Rattle.bucket.specs.declared.Malformed.{Malformed}
use Rattle.bucket.specs.Answers.{numbered, Read}
use Rattle.bucket_calls.specs.declared.KeyList.{KeyList}
use Rattle.bucket_calls.specs.Answers.{LookedUp, look_of, full_number, storable, put_in, put_of, remove_of, keys_in, list_of, Short, KeysListed}

-- the same bytes, their length within the array
pub record Trimmed {room : ℕ} (t r : Text room) : Type 0 where
  pub is : text_bytes r ≡ text_bytes t
  pub within : r.len ≤ room

-- ---- bytes that are taken

-- they have the form's length
pub length_read : (b : List ℕ) (t : List Entry) → read_bucket 4 16 b ≡ some t → length b ≡ 113
unfolding bucket_size
length_read b t e = let (same, f) = one_form 4 16 b t e in ap length same ∙ length_bucket 4 16 t f

pub room_read : {b : List ℕ} {t : Decoded} → Read b (Ok t) → 113 ≤ length b
room_read {b} {t} r = omega (arith, length_read b (table_in t) (sym r.is))

-- a form written over taken bytes takes all of them
pub over_all : (b w : List ℕ) (t : List Entry) → read_bucket 4 16 b ≡ some t → w ++ drop 113 b ≡ w
over_all b w t e = rw (drop_of_length-le b {i = 113} (omega (arith, length_read b t e))) (append-nil w)

-- ---- a key of more than eight bytes stands in no bucket

long_absent : (k : List ℕ) (t : List Entry) → 8 < length k → Capped 16 t → holds k t ≡ false
unfolding holds
long_absent k [] h c = refl
long_absent k (e ∷ t) h c =
    let ih = long_absent k t h c.1.1 in
    by_order k e.key (λ o. rw (holds, o))
    (λ o. let s : length k ≡ length e.key = ap length (order_same k e.key o) in absurd (omega (arith, c.0)))
    (λ o. rw (holds, o) ih)

pub long_not_held : (b k : List ℕ) (t : List Entry) → read_bucket 4 16 b ≡ some t → 8 < length k → holds k t ≡ false
long_not_held b k t e h =
    let (same, f) = one_form 4 16 b t e in
    long_absent k t h (sized_capped 16 t (fits_parts 4 16 t f).sizes)

-- ---- searching

module _ {b : List ℕ} (k : List ℕ) where
  pub look_refused : {e : Malformed} → Read b (Err e) → LookedUp b k (Err e)
  unfolding look_of
  look_refused r = record { is = rw (look_of, ← r.is); within = tt }

  module _ {t : Decoded} (r : Read b (Ok t)) where
    found : (i : Item) → item_in i ≡ value_of k (table_in t) → IfSome i (λ v. v.len ≤ 16) → LookedUp b k (Ok i)
    unfolding look_of
    found i e w = record { is = rw (look_of, ← r.is, e); within = w }

    pub look_long : 8 < length k → LookedUp b k (Ok None)
    unfolding item_in
    look_long h = found None (sym (absent_value k (table_in t) (long_not_held b k (table_in t) (sym r.is) h))) tt

    -- what is found of the key that is made of the lent bytes, with its length within the array
    pub look_found : (x : List ℕ) (i j : Item) → length k ≤ 8 → x ≡ take 8 k → item_in i ≡ value_of x (table_in t) → MatchOption i (j ≡ None) (λ v. IsSomeAnd j (Trimmed v)) → LookedUp b k (Ok j)
    unfolding item_in
    look_found x None None h e f m = found None (f ∙ ap (λ y. value_of y (table_in t)) (e ∙ take_all 8 k h)) tt
    look_found x None (Some w) h e f m = cc
    look_found x (Some v) None h e f m = absurd m
    look_found x (Some v) (Some w) h e f m =
        found (Some w) (ap some m.is ∙ f ∙ ap (λ y. value_of y (table_in t)) (e ∙ take_all 8 k h)) m.within

-- ---- changing

pub storable_parts : (k v : List ℕ) → storable k v ≡ true → (length k ≤ 8) × (length v ≤ 16)
unfolding storable
storable_parts k v h = go (within max_key (length k)) refl
  where
    go : (p : Bool) → within max_key (length k) ≡ p → (length k ≤ 8) × (length v ≤ 16)
    go true p = ((within_parts max_key (length k) p).1, leb-true (length v) 16 (rw (storable, p) at h))
    go false p = cc (rw (storable, p) at h)

module _ {b : List ℕ} (k v : List ℕ) where
  pub put_unstorable : storable k v ≡ false → numbered 13 b ≡ put_of b k v
  unfolding put_of
  put_unstorable h = rw (put_of, h)

  module _ (h : storable k v ≡ true) where
    pub put_refused : {e : Malformed} → Read b (Err e) → numbered 13 b ≡ put_of b k v
    unfolding put_of put_in
    put_refused r = rw (put_of, h, put_in, ← r.is)

    -- the key and the value that are made of the lent bytes are those bytes, whole
    module _ {t : Decoded} (r : Read b (Ok t)) (x y : List ℕ) (e : x ≡ take 8 k) (f : y ≡ take 16 v) where
      whole : (s : Option (List Entry)) → s ≡ stored 4 x (some y) (table_in t) → stored 4 k (some v) (table_in t) ≡ s
      whole s q =
          let (m, n) = storable_parts k v h in
          let p : x ≡ k = e ∙ take_all 8 k m in
          let o : y ≡ v = f ∙ take_all 16 v n in
          rw (← p, ← o) (sym q)

      pub put_full : none ≡ stored 4 x (some y) (table_in t) → numbered full_number b ≡ put_of b k v
      unfolding put_of put_in
      put_full q = rw (put_of, h, put_in, ← r.is, whole none q)

      pub put_done : (u : List Entry) (after : List ℕ) → some u ≡ stored 4 x (some y) (table_in t) → after ≡ bucket_bytes 4 16 u ++ drop 113 b → numbered 0 after ≡ put_of b k v
      unfolding put_of put_in
      put_done u after q w =
          rw (put_of, h, put_in, ← r.is, whole (some u) q, w, over_all b (bucket_bytes 4 16 u) (table_in t) (sym r.is))

module _ {b : List ℕ} (k : List ℕ) where
  pub remove_refused : {e : Malformed} → Read b (Err e) → numbered 13 b ≡ remove_of b k
  unfolding remove_of
  remove_refused r = rw (remove_of, ← r.is)

  module _ {t : Decoded} (r : Read b (Ok t)) where
    pub remove_done : (x : List ℕ) (u : Decoded) (after : List ℕ) → length k ≤ 8 → x ≡ take 8 k → table_in u ≡ remove x (table_in t) → after ≡ bucket_bytes 4 16 (table_in u) ++ drop 113 b → numbered 0 after ≡ remove_of b k
    unfolding remove_of
    remove_done x u after h e s w =
        rw (remove_of, ← r.is, w, over_all b (bucket_bytes 4 16 (table_in u)) (table_in t) (sym r.is), s, e, take_all 8 k h)

    pub remove_long : 8 < length k → numbered 0 b ≡ remove_of b k
    unfolding remove_of
    remove_long h =
        rw (remove_of, ← r.is, absent_remove k (table_in t) (long_not_held b k (table_in t) (sym r.is) h))
        (ap (numbered 0) (one_form 4 16 b (table_in t) (sym r.is)).0)

-- ---- listing

pub list_refused : {b : List ℕ} {e : Malformed} → Read b (Err e) → KeysListed b (Err e)
unfolding list_of
list_refused r = record { is = rw (list_of, ← r.is); count = tt; lengths = tt }

-- the keys of a table are those of its slots in use
pub keys_in_use : (t : Decoded) (n : ℕ) → Counted t n → take n (map (λ s. key_bytes s.key) t.slots) ≡ keys_of (table_in t)
unfolding entry_in
keys_in_use t n c =
    ap (take n) (each t.slots)
    ∙ sym (map-take_lem (λ e. e.key) n (map entry_in t.slots))
    ∙ ap keys_of (table_whole t c)
  where
    each : (l : List Slot) → map (λ s. key_bytes s.key) l ≡ map (λ e. e.key) (map entry_in l)
    each [] = refl
    each (s ∷ l) = ap (λ r. key_bytes s.key ∷ r) (each l)

-- each of some keys is that of a slot, its length within its array
pub keys_taken : (l : List Slot) (r : List Key) → length l ≡ length r → ((i : ℕ) → i < length l → Trimmed (get_or l i blank).key (get_or r i blank.key)) → (map key_bytes r ≡ map (λ s. key_bytes s.key) l) × Short r
keys_taken [] [] n h = (refl, tt)
keys_taken [] (k ∷ r) n h = absurd (omega arith)
keys_taken (s ∷ l) [] n h = absurd (omega arith)
keys_taken (s ∷ l) (k ∷ r) n h =
    let t : Trimmed s.key k = h 0 (omega arith) in
    let m : length l ≡ length r = omega arith in
    let (e, w) = keys_taken l r m (λ i q. h (suc i) (omega arith)) in
    (ap₂ (λ x y. x ∷ y) t.is e, (t.within, w))

pub list_done : {b : List ℕ} {t : Decoded} → Read b (Ok t) → (l : KeyList) → Counted t l.count → length l.keys ≡ 4 → ((i : ℕ) → i < 4 → Trimmed (get_or t.slots i blank).key (get_or l.keys i blank.key)) → KeysListed b (Ok l)
unfolding list_of keys_in
list_done {b} {t} r l n m h =
    let (e, w) = keys_taken t.slots l.keys (omega (arith, n.four)) (λ i q. h i (omega (arith, n.four))) in
    record {
      is = rw (list_of, ← r.is, keys_in, e, keys_in_use t l.count n);
      count = n.low;
      lengths = w;
    }
