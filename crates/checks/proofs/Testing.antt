-- The tests on a decoded table's entries, from the tests on each entry or on each pair of neighbours.
use mathlib.Core.Path.{◌≡◌, refl, sym, ap, ◌∙◌}
use mathlib.Core.List.{List, [], ◌∷◌, map}
use mathlib.Core.Bool.{Bool, true, false, not}
use Prim.Native.Nat.{ℕ, zero, suc, ◌≤◌, ◌<◌}
use native.Mathlib.Omega.{arith}
use native.Mathlib.Numerals.{add-one}
use lib.ListN.{length, get_or}
use borrow.Author.Tests.{ne_eqb}
use Rattle.std.specs.Prelude.{nat_eq}
use Rattle.std.specs.List.{list_all, IsAllAdjacentAnswer}
use Rattle.std.specs.Ordering.{is_lt}
use Rattle.entries.specs.declared.Slot.{Slot}
use Rattle.std.specs.declared.cmp.Ordering.{Ordering}
use Rattle.std.specs.declared.cmp.Ordering.TheVariants.{Less, Equal, Greater}
use Rattle.entries.specs.Entries.{Entry}
use Rattle.entries.specs.Decoded.{entry_in}
use Rattle.table.specs.Form.{rising, sized}
use Rattle.checks.specs.Tests.{before}
use Rattle.table.proofs.Fitting.{sized_first, unsized_first, sized_from, no_key, rising_from, rising_parts, not_rising}

-- ---- sizes

-- one entry, whose key has n bytes
pub one_sized : (n : ℕ) (e : Entry) → n ≡ length e.key → n ≤ 8 → length e.value ≤ 16 → not (nat_eq n 0) ≡ sized 16 (e ∷ [])
unfolding sized
one_sized zero e h k v = sym (no_key 16 e [] (sym h))
one_sized (suc n) e h k v = ap not (ne_eqb (suc n) 0 (λ z. omega arith)) ∙ sym (sized_from 16 e [] (record { key_low = omega arith; key_top = omega arith; value_top = v; others = refl }))

pub all_sized : (l : List Slot) → sized 16 (map entry_in l) ≡ list_all (λ s. sized 16 (entry_in s ∷ [])) l
all_sized [] = unfold sized in refl
all_sized (s ∷ l) = go (sized 16 (entry_in s ∷ [])) refl (all_sized l)
  where
    go : (b : Bool) → sized 16 (entry_in s ∷ []) ≡ b → sized 16 (map entry_in l) ≡ list_all (λ s. sized 16 (entry_in s ∷ [])) l
        → sized 16 (map entry_in (s ∷ l)) ≡ list_all (λ s. sized 16 (entry_in s ∷ [])) (s ∷ l)
    go true h ih = rw h (sized_first 16 (entry_in s) (map entry_in l) h ∙ ih)
    go false h ih = rw h (unsized_first 16 (entry_in s) (map entry_in l) h)

-- ---- rising order

is_less : (o : Ordering) → true ≡ is_lt o → o ≡ Less
is_less Less h = refl
is_less Equal h = cc
is_less Greater h = cc

not_less : (o : Ordering) → false ≡ is_lt o → o ≡ Less → ⊥
not_less o h e = cc

rises : (l : List Slot) → ((k : ℕ) (d : Slot) → suc k < length l → true ≡ before (get_or l k d) (get_or l (suc k) d)) → rising (map entry_in l) ≡ true
unfolding rising entry_in
rises [] h = refl
rises (s ∷ []) h = refl
rises (s ∷ (r ∷ l)) h = rising_from (entry_in s) (entry_in r) _ (is_less _ (h 0 s (omega arith))) (rises (r ∷ l) (λ k d lt. h (suc k) d (omega arith)))

falls : (l : List Slot) (k : ℕ) → suc k < length l → ((d : Slot) → false ≡ before (get_or l k d) (get_or l (suc k) d)) → rising (map entry_in l) ≡ false
unfolding entry_in
falls [] k h f = absurd (omega arith)
falls (s ∷ []) k h f = absurd (omega arith)
falls (s ∷ (r ∷ l)) zero h f = not_rising _ _ _ _ refl (not_less _ (f s))
falls (s ∷ (r ∷ l)) (suc k) h f = go (rising (map entry_in (s ∷ (r ∷ l)))) refl (falls (r ∷ l) k (omega arith) f)
  where
    go : (b : Bool) → rising (map entry_in (s ∷ (r ∷ l))) ≡ b → rising (map entry_in (r ∷ l)) ≡ false → rising (map entry_in (s ∷ (r ∷ l))) ≡ false
    go false e ih = e
    go true e ih = cc ((rising_parts _ _ _ e).1)

pub all_rising : (l : List Slot) (r : Bool) → IsAllAdjacentAnswer (λ s r b. b ≡ before s r) l r → r ≡ rising (map entry_in l)
all_rising l true h = sym (rises l (λ k d lt. rw (add-one k) at (h k d (omega arith))))
all_rising l false h = sym (falls l h.0 (omega (arith, h.1)) (λ d. rw (add-one h.0) at (h.2 d)))
