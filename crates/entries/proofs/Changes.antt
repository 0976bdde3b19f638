-- `put`, `remove` and `stored` on any table: lengths, when a key is stored, and what its value is afterwards.
use mathlib.Core.Path.{◌≡◌, refl, ap}
use mathlib.Core.List.{List, [], ◌∷◌}
use mathlib.Core.Bool.{Bool, true, false}
use mathlib.Core.Option.{none, some}
use Prim.Native.Nat.{ℕ, suc, ◌≤◌, ◌<◌, ◌+◌}
use native.Mathlib.Omega.{arith}
use lib.ListN.{length}
use borrow.Author.Tests.{lt-ltb, le-ltb}
use Rattle.std.specs.declared.cmp.Ordering.{Ordering}
use Rattle.std.specs.declared.cmp.Ordering.TheVariants.{Less, Equal, Greater}
use Rattle.entries.specs.Entries.{Entry, order, value_of, holds, put, remove, stored}
use Rattle.entries.proofs.Comparison.{order_refl}

-- a goal about a key and a first entry is shown for each of the three ways in which the key stands to the entry's
pub by_order : {P : Type 0} (l m : List ℕ) → (order l m ≡ Less → P) → (order l m ≡ Equal → P) → (order l m ≡ Greater → P) → P
by_order {P} l m before same after = go (order l m) refl
  where
    go : (o : Ordering) → order l m ≡ o → P
    go Less h = before h
    go Equal h = same h
    go Greater h = after h

-- ---- lengths

-- a held key's new value takes the place of the old one
pub length_put_held : (k v : List ℕ) (t : List Entry) → holds k t ≡ true → length (put k v t) ≡ length t
unfolding holds put
length_put_held k v [] h = cc
length_put_held k v (e ∷ t) h =
    let ih = length_put_held k v t in
    by_order k e.key
    (λ o. let z : ◌≡◌ {A = ℕ} 0 1 = cc (rw (holds, o) at h) in absurd (omega arith))
    (λ o. rw (put, o))
    (λ o. rw (put, o) (ap suc (ih (rw (holds, o) at h))))

pub length_put : (k v : List ℕ) (t : List Entry) → length (put k v t) ≤ length t + 1
unfolding put
length_put k v [] = omega arith
length_put k v (e ∷ t) =
    let ih = length_put k v t in
    by_order k e.key (λ o. rw (put, o) (omega arith)) (λ o. rw (put, o) (omega arith)) (λ o. rw (put, o) (omega arith))

pub length_remove : (k : List ℕ) (t : List Entry) → length (remove k t) ≤ length t
unfolding remove
length_remove k [] = omega arith
length_remove k (e ∷ t) =
    let ih = length_remove k t in
    by_order k e.key (λ o. rw (remove, o) (omega arith)) (λ o. rw (remove, o) (omega arith)) (λ o. rw (remove, o) (omega arith))

-- ---- when a key is stored, and when not

-- a key that is held is never refused
pub held_stored : (most : ℕ) (k v : List ℕ) (t : List Entry) → holds k t ≡ true → stored most k (some v) t ≡ some (put k v t)
unfolding stored
held_stored most k v t h = rw (stored, h)

-- nor is one for which there is room, such as a fourth
pub room_stored : (most : ℕ) (k v : List ℕ) (t : List Entry) → length t < most → stored most k (some v) t ≡ some (put k v t)
unfolding stored
room_stored most k v t h = go (holds k t) refl
  where
    go : (p : Bool) → holds k t ≡ p → stored most k (some v) t ≡ some (put k v t)
    go true p = rw (stored, p)
    go false p = rw (stored, p, lt-ltb _ _ h)

-- a new one is where there is none, such as a fifth
pub full_refused : (most : ℕ) (k v : List ℕ) (t : List Entry) → holds k t ≡ false → most ≤ length t → stored most k (some v) t ≡ none
unfolding stored
full_refused most k v t h n = rw (stored, h, le-ltb _ _ n)

-- ---- a key's value afterwards

pub absent_remove : (k : List ℕ) (t : List Entry) → holds k t ≡ false → remove k t ≡ t
unfolding holds remove
absent_remove k [] h = refl
absent_remove k (e ∷ t) h =
    let ih = absent_remove k t in
    by_order k e.key (λ o. rw (remove, o))
    (λ o. let z : ◌≡◌ {A = ℕ} 0 1 = cc (rw (holds, o) at h) in absurd (omega arith))
    (λ o. rw (remove, o, ih (rw (holds, o) at h)))

pub absent_value : (k : List ℕ) (t : List Entry) → holds k t ≡ false → value_of k t ≡ none
unfolding holds value_of
absent_value k [] h = refl
absent_value k (e ∷ t) h =
    let ih = absent_value k t in
    by_order k e.key (λ o. rw (value_of, o))
    (λ o. let z : ◌≡◌ {A = ℕ} 0 1 = cc (rw (holds, o) at h) in absurd (omega arith))
    (λ o. rw (value_of, o) (ih (rw (holds, o) at h)))

pub put_value : (k v : List ℕ) (t : List Entry) → value_of k (put k v t) ≡ some v
unfolding put value_of
put_value k v [] = rw (value_of, order_refl k)
put_value k v (e ∷ t) =
    let ih = put_value k v t in
    by_order k e.key (λ o. rw (put, o, value_of, order_refl k)) (λ o. rw (put, o, value_of, order_refl k)) (λ o. rw (put, o, value_of, o) ih)
