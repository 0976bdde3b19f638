-- `put`, `remove` and `stored` keep a table that fits fitting; and in a rising table a removed key is gone.
use mathlib.Core.Path.{◌≡◌, refl, ◌∙◌}
use mathlib.Core.List.{List, [], ◌∷◌}
use mathlib.Core.Bool.{Bool, true, false}
use mathlib.Core.Option.{Option, none, some}
use Prim.Native.Nat.{ℕ, ◌≤◌}
use native.Mathlib.Omega.{arith}
use lib.ListN.{length}
use borrow.Author.Tests.{ltb-true}
use lib.Dec.{ltb}
use Rattle.std.specs.declared.cmp.Ordering.TheVariants.{Less, Equal}
use Rattle.entries.specs.Entries.{Entry, entry, order, value_of, holds, put, remove, stored}
use Rattle.table.specs.Form.{max_key, rising, sized, ValueAtMost, fits}
use Rattle.entries.proofs.Comparison.{order_same, after_before, before_trans}
use Rattle.entries.proofs.Changes.{by_order, length_put, length_put_held, length_remove}
use Rattle.table.proofs.Fitting.{Sizes, sized_parts, sized_from, rising_parts, rising_from, rising_key, rising_tail, fits_parts, fits_from}

-- ---- sizes

other_entries : {long : ℕ} {e : Entry} {t u : List Entry} → Sizes long e t → sized long u ≡ true → Sizes long e u
other_entries s o = record { key_low = s.key_low; key_top = s.key_top; value_top = s.value_top; others = o }

sized_put : (long : ℕ) (k v : List ℕ) (t : List Entry) → Sizes long (entry k v) [] → sized long t ≡ true → sized long (put k v t) ≡ true
unfolding put
sized_put long k v [] new s = sized_from long (entry k v) [] new
sized_put long k v (e ∷ t) new s =
    let old = sized_parts long e t s in
    let ih = sized_put long k v t new old.others in
    by_order k e.key
    (λ o. rw (put, o) (sized_from long (entry k v) (e ∷ t) (other_entries new s)))
    (λ o. rw (put, o) (sized_from long (entry k v) t (other_entries new old.others)))
    (λ o. rw (put, o) (sized_from long e (put k v t) (other_entries old ih)))

sized_remove : (long : ℕ) (k : List ℕ) (t : List Entry) → sized long t ≡ true → sized long (remove k t) ≡ true
unfolding remove
sized_remove long k [] s = s
sized_remove long k (e ∷ t) s =
    let old = sized_parts long e t s in
    let ih = sized_remove long k t old.others in
    by_order k e.key (λ o. rw (remove, o) s) (λ o. rw (remove, o) old.others)
    (λ o. rw (remove, o) (sized_from long e (remove k t) (other_entries old ih)))

-- ---- rising order

-- the key is put after an entry that stands before it
rising_put_after : (e : Entry) (k v : List ℕ) (t : List Entry) → order e.key k ≡ Less → rising (e ∷ t) ≡ true → rising (e ∷ put k v t) ≡ true
unfolding put rising
rising_put_after e k v [] b r = rising_from e (entry k v) [] b refl
rising_put_after e k v (f ∷ t) b r =
    let (ef, rf) = rising_parts e f t r in
    let ih : order f.key k ≡ Less → rising (f ∷ put k v t) ≡ true = λ x. rising_put_after f k v t x rf in
    by_order k f.key
    (λ o. rw (put, o) (rising_from e (entry k v) (f ∷ t) b (rising_from (entry k v) f t o rf)))
    (λ o. rw (put, o) (rising_from e (entry k v) t b (rising_key (entry k v) f t (order_same k f.key o) ∙ rf)))
    (λ o. rw (put, o) (rising_from e f (put k v t) ef (ih (after_before k f.key o))))

pub rising_put : (k v : List ℕ) (t : List Entry) → rising t ≡ true → rising (put k v t) ≡ true
unfolding put rising
rising_put k v [] r = refl
rising_put k v (e ∷ t) r =
    by_order k e.key
    (λ o. rw (put, o) (rising_from (entry k v) e t o r))
    (λ o. rw (put, o) (rising_key (entry k v) e t (order_same k e.key o) ∙ r))
    (λ o. rw (put, o) (rising_put_after e k v t (after_before k e.key o) r))

-- an entry out of the middle leaves its neighbours in order
pub rising_skip : (e f : Entry) (t : List Entry) → order e.key f.key ≡ Less → rising (f ∷ t) ≡ true → rising (e ∷ t) ≡ true
unfolding rising
rising_skip e f [] b r = refl
rising_skip e f (g ∷ t) b r =
    let (fg, rg) = rising_parts f g t r in
    rising_from e g t (before_trans e.key f.key g.key b fg) rg

rising_remove_after : (e : Entry) (k : List ℕ) (t : List Entry) → rising (e ∷ t) ≡ true → rising (e ∷ remove k t) ≡ true
unfolding remove
rising_remove_after e k [] r = r
rising_remove_after e k (f ∷ t) r =
    let (ef, rf) = rising_parts e f t r in
    let ih = rising_remove_after f k t rf in
    by_order k f.key (λ o. rw (remove, o) r) (λ o. rw (remove, o) (rising_skip e f t ef rf))
    (λ o. rw (remove, o) (rising_from e f (remove k t) ef ih))

pub rising_remove : (k : List ℕ) (t : List Entry) → rising t ≡ true → rising (remove k t) ≡ true
unfolding remove
rising_remove k [] r = r
rising_remove k (e ∷ t) r =
    by_order k e.key (λ o. rw (remove, o) r) (λ o. rw (remove, o) (rising_tail e t r)) (λ o. rw (remove, o) (rising_remove_after e k t r))

-- a key that was removed has no value
pub removed_absent : (k : List ℕ) (t : List Entry) → rising t ≡ true → value_of k (remove k t) ≡ none
unfolding remove value_of
removed_absent k [] r = refl
removed_absent k (e ∷ t) r =
    by_order k e.key (λ o. rw (remove, o, value_of, o)) (λ o. rw (remove, o) (behind t r o))
    (λ o. rw (remove, o, value_of, o) (removed_absent k t (rising_tail e t r)))
  where
    behind : (u : List Entry) → rising (e ∷ u) ≡ true → order k e.key ≡ Equal → value_of k u ≡ none
    behind [] h o = refl
    behind (f ∷ u) h o = rw (value_of, order_same k e.key o, (rising_parts e f u h).0)

-- ---- a table that fits is changed to one that fits

pub remove_fits : (most long : ℕ) (k : List ℕ) (t : List Entry) → fits most long t ≡ true → fits most long (remove k t) ≡ true
remove_fits most long k t h =
    let f = fits_parts most long t h in
    fits_from (record { few = omega (arith, length_remove k t); sizes = sized_remove long k t f.sizes; rises = rising_remove k t f.rises })

module _ (most long : ℕ) (k : List ℕ) (k₁ : 1 ≤ length k) (k₂ : length k ≤ max_key) where
  put_fits : (v : List ℕ) (t : List Entry) → length v ≤ long → length (put k v t) ≤ most → fits most long t ≡ true → fits most long (put k v t) ≡ true
  put_fits v t l n h =
      let f = fits_parts most long t h in
      let new : Sizes long (entry k v) [] = record { key_low = k₁; key_top = k₂; value_top = l; others = no_others } in
      fits_from (record { few = n; sizes = sized_put long k v t new f.sizes; rises = rising_put k v t f.rises })
    where
      no_others : sized long [] ≡ true
      no_others = unfold sized in refl

  pub stored_fits : (v : Option (List ℕ)) (t u : List Entry) → ValueAtMost long v → fits most long t ≡ true → stored most k v t ≡ some u → fits most long u ≡ true
  unfolding stored
  stored_fits none t u l h e = let s : remove k t ≡ u = cc in rw (← s) (remove_fits most long k t h)
  stored_fits (some v) t u l h e = go (holds k t) refl (ltb (length t) most) refl
    where
      is_put : (length (put k v t) ≤ most) → some (put k v t) ≡ some u → fits most long u ≡ true
      is_put n d = let s : put k v t ≡ u = cc in rw (← s) (put_fits v t l n h)

      go : (p : Bool) → holds k t ≡ p → (q : Bool) → ltb (length t) most ≡ q → fits most long u ≡ true
      go true p q c = is_put (omega (arith, length_put_held k v t p, (fits_parts most long t h).few)) (rw (stored, p) at e)
      go false p true c = is_put (omega (arith, length_put k v t, ltb-true (length t) most c)) (rw (stored, p, c) at e)
      go false p false c = let z : ◌≡◌ {A = ℕ} 0 1 = cc (rw (stored, p, c) at e) in absurd (omega arith)
