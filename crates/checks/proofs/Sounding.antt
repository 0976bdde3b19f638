-- The test of a decoded table's own numbers, from the tests of its slots.
use mathlib.Core.Path.{◌≡◌, refl, sym}
use mathlib.Core.List.{List, [], ◌∷◌}
use mathlib.Core.Bool.{Bool, true, false}
use Prim.Native.Nat.{◌≤◌, ◌<◌}
use lib.Dec.{leb}
use lib.ListN.{take}
use borrow.Author.Tests.{le-leb, lt-leb}
use Rattle.std.specs.List.{list_all}
use Rattle.entries.specs.declared.Slot.{Slot}
use Rattle.entries.specs.declared.Decoded.{Decoded}
use Rattle.checks.specs.Tests.{sound_slots, sound}

pub long_key : (s : Slot) → 8 < s.key.len → leb s.key.len 8 ≡ sound_slots (s ∷ [])
unfolding sound_slots
long_key s h = rw (sound_slots, lt-leb _ _ h)

pub short_key : (s : Slot) → s.key.len ≤ 8 → leb s.value.len 16 ≡ sound_slots (s ∷ [])
unfolding sound_slots
short_key s h = go (leb s.value.len 16) refl
  where
    go : (b : Bool) → leb s.value.len 16 ≡ b → leb s.value.len 16 ≡ sound_slots (s ∷ [])
    go true e = rw (sound_slots, le-leb _ _ h, e)
    go false e = rw (sound_slots, le-leb _ _ h, e)

pub all_sound : (l : List Slot) → sound_slots l ≡ list_all (λ s. sound_slots (s ∷ [])) l
unfolding sound_slots
all_sound [] = refl
all_sound (s ∷ l) = go (leb s.key.len 8) refl (leb s.value.len 16) refl (all_sound l)
  where
    go : (p : Bool) → leb s.key.len 8 ≡ p → (q : Bool) → leb s.value.len 16 ≡ q → sound_slots l ≡ list_all (λ s. sound_slots (s ∷ [])) l
        → sound_slots (s ∷ l) ≡ list_all (λ s. sound_slots (s ∷ [])) (s ∷ l)
    go true p true q ih = rw (sound_slots, list_all, p, q) ih
    go true p false q ih = rw (sound_slots, list_all, p, q)
    go false p q r ih = rw (sound_slots, list_all, p)

-- ---- the whole test

pub sound_count : (t : Decoded) → 4 < t.count → leb t.count 4 ≡ sound t
unfolding sound
sound_count t h = rw (sound, lt-leb _ _ h)

pub sound_by_slots : (t : Decoded) → t.count ≤ 4 → list_all (λ s. sound_slots (s ∷ [])) (take t.count t.slots) ≡ sound t
unfolding sound
sound_by_slots t h = sym (rw (sound, le-leb _ _ h) (all_sound (take t.count t.slots)))
