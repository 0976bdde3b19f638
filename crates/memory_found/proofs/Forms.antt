-- Items written one after another.
use mathlib.Core.Path.{◌≡◌, refl, sym, ap, ◌∙◌}
use mathlib.Core.List.{List, [], ◌∷◌, ◌++◌, map, append-nil, append_assoc}
use Prim.Native.Nat.{ℕ, ◌≤◌, ◌<◌, ◌+◌, ◌-◌, ◌*◌}
use native.Mathlib.Omega.{arith}
use native.Mathlib.Nat.{zero-add}
use lib.ListN.{length, take, drop, get_or, set, length-append, length-map, length-set, get_or-map, drop_of_length-le}
use lib.Seq.{sets, sets-eq, length-sets, drop-drop, drop-cons}
use native.Mathlib.Numerals.{add-one}
use borrow.Rule.Slice.PartMut.{put_mid}
use Rattle.entries.specs.declared.Slot.{Slot}
use Rattle.entries.specs.Entries.{keys_of}
use Rattle.entries.specs.Decoded.{key_bytes, entry_in, blank}
use Rattle.table.proofs.Filling.{sets_append}
use Rattle.memory_found.specs.Found.{most_items, item_room, found_len, items_form, found_form, put_found}
use Rattle.memory_found.specs.Steps.{ItemPut, ItemsPut}

-- ---- their number, then they

found_put : (l : List (List ℕ)) (b : List ℕ) → length (found_form l) ≤ length b → sets b 0 (found_form l) ≡ put_found b l
unfolding put_found
found_put l b h = sets-eq (found_form l) b 0 (omega arith) ∙ rw (zero-add (length (found_form l)))

pub items_put : (l : List (List ℕ)) (b after : List ℕ) (n : ℕ) → length b ≡ found_len → n ≡ length l → ItemsPut l (set b 0 n) after → after ≡ put_found b l
unfolding found_form
items_put l b after n h e c =
    c.is ∙ ap (λ x. sets (set b 0 x) 1 (items_form l)) e ∙ found_put l b (omega (arith, c.within))

-- ---- an item

pub item_put : (room : ℕ) (x b : List ℕ) (at : ℕ) {len r : ℕ} {mid : List ℕ} → at + 1 + length x ≤ length b → len ≡ length x → length x ≤ room → mid ≡ x → r ≡ at + 1 + len → ItemPut room x b at (put_mid (at + 1) (at + 1 + len - (at + 1)) (set b at len) mid) r
item_put room x b at {len} {r} {mid} h e k m f =
    let n : at + 1 + len - (at + 1) ≡ length x = omega arith in
    record {
      is = rw (n, e, m, drop-drop) (sym (append_assoc (take (at + 1) (set b at (length x))) x (drop (at + 1 + length x) (set b at (length x)))) ∙ sym (sets-eq x (set b at (length x)) (at + 1) (rw length-set h)) ∙ ap (λ k. sets (set b at (length x)) k x) (add-one at));
      ends = omega arith;
      short = k;
    }

-- ---- a value

pub value_put : (v b after : List ℕ) {r : ℕ} → length b ≡ found_len → ItemPut 16 v (set b 0 1) 1 after r → after ≡ put_found b (v ∷ [])
unfolding items_form
value_put v b after h o =
    items_put (v ∷ []) b after 1 h refl (record { is = rw (append-nil v) o.is; within = rw (append-nil v) (omega (arith, o.short)) })

-- ---- keys: those of the first i slots are written, up to `at`
pub record Listing (b₀ : List ℕ) (l : List Slot) (b : List ℕ) (at i : ℕ) : Type 0 where
  pub low : length l ≤ most_items
  pub room : length b₀ ≡ found_len
  pub size : length b ≡ length b₀
  pub far : at ≤ 1 + item_room * i
  pub ahead : at + length (items_form (keys_of (drop i (map entry_in l)))) ≡ 1 + length (items_form (keys_of (map entry_in l)))
  pub rest : sets b₀ 1 (items_form (keys_of (map entry_in l))) ≡ sets b at (items_form (keys_of (drop i (map entry_in l))))

pub listing_starts : (b : List ℕ) (l : List Slot) → length l ≤ 4 → length b ≡ found_len → Listing b l b 1 0
listing_starts b l h r = record { low = h; room = r; size = refl; far = omega arith; ahead = refl; rest = refl }

module _ {b₀ : List ℕ} {l : List Slot} {b : List ℕ} {at i : ℕ} (c : Listing b₀ l b at i) where
  pub listing_fits : i < length l → (8 < 256) × (at + 1 + 8 ≤ length b)
  listing_fits h = (omega arith, omega (arith, c.far, c.low, c.size, c.room))

  pub listing_goes_on : {r : ℕ} (after : List ℕ) → i < length l → ItemPut 8 (key_bytes (get_or l i blank).key) b at after r → Listing b₀ l after r (i + 1)
  listing_goes_on {r} after h o =
      record {
        low = c.low;
        room = c.room;
        size = ap length o.is ∙ length-sets b at item ∙ c.size;
        far = omega (arith, c.far, o.ends, o.short);
        ahead = omega (arith, c.ahead, longer, o.ends);
        rest = c.rest ∙ more;
      }
    where
      key : List ℕ
      key = key_bytes (get_or l i blank).key

      item : List ℕ
      item = length key ∷ key

      tail : List ℕ
      tail = items_form (keys_of (drop (i + 1) (map entry_in l)))

      first : items_form (keys_of (drop i (map entry_in l))) ≡ item ++ tail
      first = unfold items_form entry_in in rw (add-one i, drop-cons (map entry_in l) i (entry_in blank) (rw length-map h), get_or-map entry_in l i blank)

      longer : length (items_form (keys_of (drop i (map entry_in l)))) ≡ length item + length tail
      longer = ap length first ∙ length-append item tail

      more : sets b at (items_form (keys_of (drop i (map entry_in l)))) ≡ sets after r tail
      more =
          let e : at + length item ≡ r = omega (arith, o.ends) in
          ap (sets b at) first ∙ sets_append b at item tail ∙ rw (← o.is, e)

  pub listing_ends : length l ≤ i → i ≤ length l → ItemsPut (keys_of (map entry_in l)) b₀ b
  unfolding items_form
  listing_ends h k =
      let e : drop i (map entry_in l) ≡ [] = drop_of_length-le (map entry_in l) {i = i} (rw length-map h) in
      let a : at + 0 ≡ 1 + length (items_form (keys_of (map entry_in l))) = rw e at c.ahead in
      record {
        is = sym (c.rest ∙ rw e);
        within = omega (arith, c.far, c.low);
      }
