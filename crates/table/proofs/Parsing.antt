-- Bucket bytes decoded entry by entry.
use mathlib.Core.Path.{◌≡◌, sym, ap, ◌∙◌}
use mathlib.Core.List.{List, [], ◌∷◌, ◌++◌, map, map-append, append-nil}
use Prim.Native.Nat.{ℕ, suc, ◌≤◌, ◌<◌, ◌+◌, ◌-◌, ◌*◌, min}
use native.Mathlib.Omega.{arith}
use native.Mathlib.Numerals.{add-one}
use lib.ListN.{length, take, drop, get_or, set, length-set, length-take}
use lib.Seq.{take-suc-set, get_or-drop, drop-drop, take_all, append_snoc}
use Rattle.entries.specs.declared.Slot.{Slot}
use Rattle.entries.specs.Entries.{entry}
use Rattle.entries.specs.Decoded.{Key, Value, key_bytes, value_bytes, entry_in, table_in}
use Rattle.entries.proofs.Shifts.{map-take_lem}
use Rattle.table.specs.Form.{entries_of, table_of}
use Rattle.table.specs.Steps.{CutOut, Bounded, Decodes}

bounded_snoc : (l : List Slot) (s : Slot) → Bounded l → s.key.len ≤ 8 → s.value.len ≤ 16 → Bounded (l ++ (s ∷ []))
bounded_snoc [] s b k v = (k, (v, tt))
bounded_snoc (a ∷ l) s b k v = (b.0, (b.1.0, bounded_snoc l s b.1.1 k v))

-- the first i of n entries are in the slots, and the rest is to be read from `at` on
pub record Decoding (b : List ℕ) (n : ℕ) (l : List Slot) (at i : ℕ) : Type 0 where
  pub inside : i ≤ n
  pub low : n ≤ 4
  pub room : length b ≡ 113
  pub four : length l ≡ 4
  pub far : at ≤ 1 + 4 * n + 24 * i
  pub bounded : Bounded (take i l)
  pub whole : table_of 4 16 b ≡ map entry_in (take i l) ++ entries_of 16 (n - i) (drop (1 + 4 * i) b) (drop at b)

pub decoding_starts : {b : List ℕ} {n : ℕ} {l : List Slot} → n ≡ min 4 (get_or b 0 0) → length b ≡ 113 → length l ≡ 4 → Decoding b n l (1 + 4 * n) 0
unfolding table_of
decoding_starts {b} {n} {l} h r f =
    let z : n - 0 ≡ n = omega arith in
    record { inside = omega arith; low = omega arith; room = r; four = f; far = omega arith; bounded = tt; whole = rw (z, h) }

-- one entry of those to be read
next_of : (m : ℕ) (b : List ℕ) (i at k v : ℕ) → k ≡ min 8 (get_or b (4 * i + 2) 0) → v ≡ min 16 (get_or b (4 * i + 4) 0) → entries_of 16 (suc m) (drop (1 + 4 * i) b) (drop at b) ≡ entry (take k (drop at b)) (take v (drop k (drop at b))) ∷ entries_of 16 m (drop (1 + 4 * (i + 1)) b) (drop (at + (k + v)) b)
unfolding entries_of
next_of m b i at k v hk hv =
    let a : 1 + 4 * i + 1 ≡ 4 * i + 2 = omega arith in
    let b₃ : 1 + 4 * i + 3 ≡ 4 * i + 4 = omega arith in
    let d : 1 + 4 * i + 4 ≡ 1 + 4 * (i + 1) = omega arith in
    let one : get_or (drop (1 + 4 * i) b) 1 0 ≡ get_or b (4 * i + 2) 0 = get_or-drop (1 + 4 * i) b 1 0 ∙ ap (λ x. get_or b x 0) a in
    let three : get_or (drop (1 + 4 * i) b) 3 0 ≡ get_or b (4 * i + 4) 0 = get_or-drop (1 + 4 * i) b 3 0 ∙ ap (λ x. get_or b x 0) b₃ in
    let four : drop 4 (drop (1 + 4 * i) b) ≡ drop (1 + 4 * (i + 1)) b = drop-drop 4 (1 + 4 * i) b ∙ ap (λ x. drop x b) d in
    let past : drop (k + v) (drop at b) ≡ drop (at + (k + v)) b = drop-drop (k + v) at b in
    rw (one, three, ← hk, ← hv, four, past)

module _ {b : List ℕ} {n : ℕ} {l : List Slot} {at i : ℕ} (c : Decoding b n l at i) where
  pub decoding_goes_on : {k v : ℕ} (s : Slot) → i < n → k ≡ min 8 (get_or b (4 * i + 2) 0) → v ≡ min 16 (get_or b (4 * i + 4) 0) → CutOut b at k v s → Decoding b n (set l i s) (at + (k + v)) (i + 1)
  decoding_goes_on {k} {v} s h hk hv e =
      record {
        inside = omega arith;
        low = c.low;
        room = c.room;
        four = length-set l i s ∙ c.four;
        far = omega (arith, c.far);
        bounded = rw (add-one i, take-suc-set l i s (omega (arith, c.four, c.low))) (bounded_snoc (take i l) s c.bounded e.key_top e.value_top);
        whole = c.whole ∙ more;
      }
    where
      more : map entry_in (take i l) ++ entries_of 16 (n - i) (drop (1 + 4 * i) b) (drop at b) ≡ map entry_in (take (i + 1) (set l i s)) ++ entries_of 16 (n - (i + 1)) (drop (1 + 4 * (i + 1)) b) (drop (at + (k + v)) b)
      more =
          let left : n - i ≡ suc (n - (i + 1)) = omega arith in
          rw (left, next_of (n - (i + 1)) b i at k v hk hv, ← e.is, add-one i, take-suc-set l i s (omega (arith, c.four, c.low)), map-append entry_in (take i l) (s ∷ []))
          (sym (append_snoc (map entry_in (take i l)) (entry_in s) _))

  pub decoding_ends : n ≤ i → Decodes b (record { count = n; slots = l })
  unfolding table_in entries_of
  decoding_ends h =
      let e : i ≡ n = omega (arith, c.inside) in
      let z : n - n ≡ 0 = omega arith in
      record {
        table = sym (c.whole ∙ rw (e, z, append-nil) (map-take_lem entry_in n l));
        count = c.low;
        lengths = rw e at c.bounded;
      }

-- the key and the value that are cut out of the bytes
pub slot_cut : (b : List ℕ) (at k v : ℕ) (x : Key) (y : Value) → k ≤ 8 → v ≤ 16 → at + k + v ≤ length b → key_bytes x ≡ take 8 (take k (drop at b)) → value_bytes y ≡ take 16 (take v (drop (at + k) b)) → x.len ≤ 8 → y.len ≤ 16 → CutOut b at k v (record { key = x; value = y })
unfolding entry_in
slot_cut b at k v x y h g l p q m n =
    let key : key_bytes x ≡ take k (drop at b) = p ∙ take_all 8 (take k (drop at b)) (rw length-take (omega arith)) in
    let value : value_bytes y ≡ take v (drop k (drop at b)) =
    q ∙ take_all 16 (take v (drop (at + k) b)) (rw length-take (omega arith)) ∙ ap (take v) (sym (drop-drop k at b)) in
    record { is = rw (entry_in, key, value); key_top = m; value_top = n }
