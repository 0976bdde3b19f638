-- What the tests on a table say: `within`, `sized`, `rising` and `fits` taken apart and put together.
use mathlib.Core.Path.{◌≡◌, refl}
use mathlib.Core.List.{List, [], ◌∷◌}
use mathlib.Core.Bool.{Bool, true, false}
use Prim.Native.Nat.{ℕ, ◌≤◌}
use native.Mathlib.Omega.{arith}
use lib.Dec.{leb}
use lib.ListN.{length}
use borrow.Author.Tests.{le-leb, leb-true}
use Rattle.std.specs.declared.cmp.Ordering.{Ordering}
use Rattle.std.specs.declared.cmp.Ordering.TheVariants.{Less, Equal, Greater}
use Rattle.entries.specs.Entries.{Entry, order}
use Rattle.table.specs.Form.{max_key, within, rising, sized, fits}

-- two tests, the second made only where the first holds
abbrev both : Bool → Bool → Bool
both b c = elim b [ false ↦ false | true ↦ c ]

both_parts : (b c : Bool) → both b c ≡ true → (b ≡ true) × (c ≡ true)
both_parts true c h = (refl, h)
both_parts false c h = (h, (cc))

both_from : {b c : Bool} → b ≡ true → c ≡ true → both b c ≡ true
both_from h k = rw (h, k)

pub within_parts : (top n : ℕ) → within top n ≡ true → (1 ≤ n) × (n ≤ top)
unfolding within
within_parts top n h =
    let (p, q) = both_parts (leb 1 n) (leb n top) h in
    (leb-true 1 n p, leb-true n top q)

pub within_from : {top n : ℕ} → 1 ≤ n → n ≤ top → within top n ≡ true
unfolding within
within_from {top} {n} h k = both_from (le-leb 1 n h) (le-leb n top k)

-- the sizes of a first entry, and of the others
pub record Sizes (long : ℕ) (e : Entry) (t : List Entry) : Type 0 where
  pub key_low : 1 ≤ length e.key
  pub key_top : length e.key ≤ max_key
  pub value_top : length e.value ≤ long
  pub others : sized long t ≡ true

pub sized_parts : (long : ℕ) (e : Entry) (t : List Entry) → sized long (e ∷ t) ≡ true → Sizes long e t
unfolding sized
sized_parts long e t h =
    let (p, q) = both_parts (within max_key (length e.key)) (both (leb (length e.value) long) (sized long t)) h in
    let (r, s) = both_parts (leb (length e.value) long) (sized long t) q in
    let k = within_parts max_key (length e.key) p in
    record { key_low = k.0; key_top = k.1; value_top = leb-true _ _ r; others = s }

pub sized_from : (long : ℕ) (e : Entry) (t : List Entry) → Sizes long e t → sized long (e ∷ t) ≡ true
unfolding sized
sized_from long e t s = both_from (within_from s.key_low s.key_top) (both_from (le-leb _ _ s.value_top) s.others)

-- a table is sized where its first entry is, and the others are
pub sized_first : (long : ℕ) (e : Entry) (t : List Entry) → sized long (e ∷ []) ≡ true → sized long (e ∷ t) ≡ sized long t
unfolding sized
sized_first long e t h = go (within max_key (length e.key)) refl (leb (length e.value) long) refl
  where
    go : (p : Bool) → within max_key (length e.key) ≡ p → (q : Bool) → leb (length e.value) long ≡ q → sized long (e ∷ t) ≡ sized long t
    go true p true q = rw (sized, p, q)
    go true p false q = let z : ◌≡◌ {A = ℕ} 0 1 = cc (rw (sized, p, q) at h) in absurd (omega arith)
    go false p q r = let z : ◌≡◌ {A = ℕ} 0 1 = cc (rw (sized, p) at h) in absurd (omega arith)

pub unsized_first : (long : ℕ) (e : Entry) (t : List Entry) → sized long (e ∷ []) ≡ false → sized long (e ∷ t) ≡ false
unfolding sized
unsized_first long e t h = go (within max_key (length e.key)) refl (leb (length e.value) long) refl
  where
    go : (p : Bool) → within max_key (length e.key) ≡ p → (q : Bool) → leb (length e.value) long ≡ q → sized long (e ∷ t) ≡ false
    go true p true q = let z : ◌≡◌ {A = ℕ} 0 1 = cc (rw (sized, p, q) at h) in absurd (omega arith)
    go true p false q = rw (sized, p, q)
    go false p q r = rw (sized, p)

-- an entry with no key
pub no_key : (long : ℕ) (e : Entry) (t : List Entry) → length e.key ≡ 0 → sized long (e ∷ t) ≡ false
unfolding sized within
no_key long e t h = rw (sized, h)

-- a rising table's first two keys, and the table after the first
pub rising_parts : (e f : Entry) (t : List Entry) → rising (e ∷ (f ∷ t)) ≡ true → (order e.key f.key ≡ Less) × (rising (f ∷ t) ≡ true)
unfolding rising
rising_parts e f t h = go (order e.key f.key) refl
  where
    go : (o : Ordering) → order e.key f.key ≡ o → (order e.key f.key ≡ Less) × (rising (f ∷ t) ≡ true)
    go Less k = (k, rw (rising, k) at h)
    go Equal k = let z : ◌≡◌ {A = ℕ} 0 1 = cc (rw (rising, k) at h) in absurd (omega arith)
    go Greater k = let z : ◌≡◌ {A = ℕ} 0 1 = cc (rw (rising, k) at h) in absurd (omega arith)

pub rising_from : (e f : Entry) (t : List Entry) → order e.key f.key ≡ Less → rising (f ∷ t) ≡ true → rising (e ∷ (f ∷ t)) ≡ true
unfolding rising
rising_from e f t h k = rw (rising, h) k

pub not_rising : (e f : Entry) (t : List Entry) (o : Ordering) → order e.key f.key ≡ o → (o ≡ Less → ⊥) → rising (e ∷ (f ∷ t)) ≡ false
unfolding rising
not_rising e f t Less h n = absurd (n refl)
not_rising e f t Equal h n = rw (rising, h)
not_rising e f t Greater h n = rw (rising, h)

-- only keys count for whether a table is rising
pub rising_key : (e f : Entry) (t : List Entry) → e.key ≡ f.key → rising (e ∷ t) ≡ rising (f ∷ t)
unfolding rising
rising_key e f [] h = refl
rising_key e f (g ∷ t) h = rw (rising, h)

pub rising_tail : (e : Entry) (t : List Entry) → rising (e ∷ t) ≡ true → rising t ≡ true
unfolding rising
rising_tail e [] h = refl
rising_tail e (f ∷ t) h = (rising_parts e f t h).1

pub record Fitting (most long : ℕ) (t : List Entry) : Type 0 where
  pub few : length t ≤ most
  pub sizes : sized long t ≡ true
  pub rises : rising t ≡ true

pub fits_parts : (most long : ℕ) (t : List Entry) → fits most long t ≡ true → Fitting most long t
unfolding fits
fits_parts most long t h =
    let (p, q) = both_parts (leb (length t) most) (both (sized long t) (rising t)) h in
    let (r, s) = both_parts (sized long t) (rising t) q in
    record { few = leb-true _ _ p; sizes = r; rises = s }

pub fits_from : {most long : ℕ} {t : List Entry} → Fitting most long t → fits most long t ≡ true
unfolding fits
fits_from f = both_from (le-leb _ _ f.few) (both_from f.sizes f.rises)

-- with few enough entries, what is left of the test
pub fits_sized : (most long : ℕ) (t : List Entry) → length t ≤ most → sized long t ≡ true → fits most long t ≡ rising t
unfolding fits
fits_sized most long t n h = rw (fits, le-leb _ _ n, h)

pub fits_unsized : (most long : ℕ) (t : List Entry) → length t ≤ most → sized long t ≡ false → fits most long t ≡ false
unfolding fits
fits_unsized most long t n h = rw (fits, le-leb _ _ n, h)
