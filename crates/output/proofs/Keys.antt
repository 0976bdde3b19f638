-- The keys of a table as a list by value, and how long they are in print.
use mathlib.Core.Path.{◌≡◌, refl, ap}
use mathlib.Core.List.{List, [], ◌∷◌, map}
use mathlib.Core.Option.{some}
use Prim.Native.Nat.{ℕ, zero, suc, ◌≤◌, ◌*◌}
use native.Mathlib.Omega.{arith}
use lib.ListN.{length, take, get_or, length-append}
use Rattle.entries.specs.Entries.{keys_of}
use Rattle.entries.specs.Decoded.{key_bytes, entry_in, table_in, blank}
use Rattle.entries.specs.Decoded.{Key}
use Rattle.entries.specs.declared.Slot.{Slot}
use Rattle.entries.specs.declared.Decoded.{Decoded}
use Rattle.model.specs.Text.{bytes}
use Rattle.model.specs.Print.{hex_pairs, value_text, key_list, keys_text}
use Rattle.print.specs.declared.KeyList.{KeyList}
use Rattle.print.specs.Answers.{keys_in}
use Rattle.output.specs.Told.{KeyOf, KeysOf}

-- ---- bytes in hexadecimal

length_pairs : (l : List ℕ) → length (hex_pairs l) ≡ 2 * length l
unfolding hex_pairs
length_pairs [] = refl
length_pairs (b ∷ l) = omega (arith, length_pairs l)

-- at most k bytes have at most 2 k digits, and no bytes are printed as `.`
pub value_room : (k : ℕ) (l : List ℕ) → 1 ≤ k → length l ≤ k → length (value_text (some l)) ≤ 2 * k
unfolding value_text bytes
value_room k [] h g = omega arith
value_room k (b ∷ l) h g = omega (arith, length_pairs (b ∷ l))

-- ---- four keys

no_keys : (n : ℕ) → length (key_list (take n [])) ≡ 0
unfolding key_list
no_keys zero = refl
no_keys (suc n) = refl

module _ (a b c d : List ℕ) (short-a : length a ≤ 8) (short-b : length b ≤ 8) (short-c : length c ≤ 8) (short-d : length d ≤ 8) where
  ha : length (hex_pairs a) ≤ 16
  ha = omega (arith, length_pairs a)

  hb : length (hex_pairs b) ≤ 16
  hb = omega (arith, length_pairs b)

  hc : length (hex_pairs c) ≤ 16
  hc = omega (arith, length_pairs c)

  hd : length (hex_pairs d) ≤ 16
  hd = omega (arith, length_pairs d)

  pub keys_room : (n : ℕ) → length (keys_text (take n (a ∷ (b ∷ (c ∷ (d ∷ [])))))) ≤ 68
  unfolding keys_text key_list bytes
  keys_room zero = omega arith
  keys_room (suc zero) = simp length-append (omega (arith, ha))
  keys_room (suc (suc zero)) = simp length-append (omega (arith, ha, hb))
  keys_room (suc (suc (suc zero))) = simp length-append (omega (arith, ha, hb, hc))
  keys_room (suc (suc (suc (suc n)))) = simp length-append (omega (arith, ha, hb, hc, hd, no_keys n))

-- ---- the keys of the slots

keys_taken : (n : ℕ) (l : List Slot) → keys_of (take n (map entry_in l)) ≡ take n (map key_bytes (map (λ s. s.key) l))
unfolding entry_in
keys_taken zero l = refl
keys_taken (suc n) [] = refl
keys_taken (suc n) (s ∷ l) = ap (λ r. key_bytes s.key ∷ r) (keys_taken n l)

four_keys : (l : List Slot) → length l ≡ 4 → map (λ s. s.key) l ≡ (get_or l 0 blank).key ∷ ((get_or l 1 blank).key ∷ ((get_or l 2 blank).key ∷ ((get_or l 3 blank).key ∷ [])))
four_keys [] h = absurd (omega arith)
four_keys (a ∷ []) h = absurd (omega arith)
four_keys (a ∷ (b ∷ [])) h = absurd (omega arith)
four_keys (a ∷ (b ∷ (c ∷ []))) h = absurd (omega arith)
four_keys (a ∷ (b ∷ (c ∷ (d ∷ [])))) h = refl
four_keys (a ∷ (b ∷ (c ∷ (d ∷ (e ∷ l))))) h = absurd (omega arith)

abbrev list_of : Decoded → Key → Key → Key → Key → KeyList
list_of t a b c d = record { count = t.count; keys = a ∷ (b ∷ (c ∷ (d ∷ []))) }

pub keys_of_lem : (t : Decoded) (a b c d : Key) → length t.slots ≡ 4 → KeyOf (get_or t.slots 0 blank) a → KeyOf (get_or t.slots 1 blank) b → KeyOf (get_or t.slots 2 blank) c → KeyOf (get_or t.slots 3 blank) d → KeysOf t (list_of t a b c d)
unfolding keys_in table_in
keys_of_lem t a b c d h ka kb kc kd =
    record {
      is = rw (keys_taken t.count t.slots, four_keys t.slots h, ka.is, kb.is, kc.is, kd.is);
      short = keys_room (key_bytes a) (key_bytes b) (key_bytes c) (key_bytes d) ka.short kb.short kc.short kd.short t.count;
    }
