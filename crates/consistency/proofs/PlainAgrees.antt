-- The plain table of the statement answers like the machine's `effect`: the machine's table is the plain one sorted by key.
use mathlib.Core.Path.{◌≡◌, refl, sym, ◌∙◌, ap}
use mathlib.Core.List.{List, [], ◌∷◌}
use mathlib.Core.Bool.{Bool, true, false}
use mathlib.Core.Option.{Option, none, some}
use Prim.Native.Nat.{ℕ, suc, ◌<◌}
use native.Mathlib.Omega.{arith}
use native.Mathlib.Decide.{dec_lt}
use lib.Dec.{ltb}
use lib.ListN.{length}
use borrow.Author.Tests.{lt-ltb, le-ltb, eq-eqb, ne_eqb}
use Rattle.std.specs.declared.cmp.Ordering.{Ordering}
use Rattle.std.specs.declared.cmp.Ordering.TheVariants.{Less, Equal, Greater}
use Rattle.entries.specs.Entries.{Entry, entry, order, value_of, holds, put, remove, stored, keys_of}
use Rattle.entries.proofs.Comparison.{order_less, order_more, order_next, order_refl, order_same, before_trans}
use Rattle.entries.proofs.Changes.{by_order, absent_remove}
use Rattle.table.specs.Form.{rising, same_bytes, same_value}
use Rattle.table.proofs.Fitting.{rising_parts, rising_from, rising_tail}
use Rattle.table.proofs.Changes.{rising_skip, rising_put, rising_remove}
use Rattle.model.specs.Calls.{Words, get, set, setif, del, keys, value, listed, Effect, setting, effect}
use Rattle.consistency.specs.Statement.{same, lookup, alike, stands, without, after, place, all_keys, Reply, plain_set, plain}
use Rattle.consistency.proofs.OneBucket.{left, said}

-- ---- the tests on bytes

abbrev is_same : Ordering → Bool
is_same Less = false
is_same Equal = true
is_same Greater = false

abbrev is_after : Ordering → Bool
is_after Less = false
is_after Equal = false
is_after Greater = true

-- both tests say what the order says
abbrev TestsAgree : List ℕ → List ℕ → Type 0
TestsAgree l m = (same l m ≡ is_same (order l m)) × (after l m ≡ is_after (order l m))

tests : (l m : List ℕ) → TestsAgree l m
unfolding same after order
tests [] [] = (refl, refl)
tests [] (b ∷ m) = (refl, refl)
tests (a ∷ l) [] = (refl, refl)
tests (a ∷ l) (b ∷ m) = go (dec_lt a b) (dec_lt b a) (tests l m)
  where
    go : Dec (a < b) → Dec (b < a) → TestsAgree l m → TestsAgree (a ∷ l) (b ∷ m)
    go (yes h) d ih =
        rw (order_less a b l m h, same, after, ne_eqb a b (λ e. omega arith), le-ltb b a (omega arith)) (refl, refl)
    go (no h) (yes k) ih =
        rw (order_more a b l m k, same, after, ne_eqb a b (λ e. omega arith), lt-ltb b a k) (refl, refl)
    go (no h) (no k) ih =
        let e : a ≡ b = omega arith in
        rw (order_next a b l m (omega arith) (omega arith), same, after, eq-eqb a b e, le-ltb b a (omega arith)) ih

same_as : (l m : List ℕ) {o : Ordering} → order l m ≡ o → same l m ≡ is_same o
same_as l m e = (tests l m).0 ∙ ap is_same e

after_as : (l m : List ℕ) {o : Ordering} → order l m ≡ o → after l m ≡ is_after o
after_as l m e = (tests l m).1 ∙ ap is_after e

-- a goal is shown for both values of a test
by_test : {P : Type 0} (b : Bool) → (b ≡ true → P) → (b ≡ false → P) → P
by_test true h k = h refl
by_test false h k = k refl

-- no test is both true and false
not_both : {P : Type 0} {b : Bool} → b ≡ true → b ≡ false → P
not_both h k = let z : ◌≡◌ {A = ℕ} 0 1 = cc in absurd (omega arith)

same_equal : (l m : List ℕ) → same l m ≡ true → l ≡ m
same_equal l m h =
    by_order l m (λ o. not_both h (same_as l m o)) (order_same l m) (λ o. not_both h (same_as l m o))

-- two lists that are not the same stand in one of two ways
by_other : {P : Type 0} (l m : List ℕ) → same l m ≡ false → (order l m ≡ Less → P) → (order l m ≡ Greater → P) → P
by_other l m n before behind = by_order l m before (λ o. not_both (same_as l m o) n) behind

after_order : (l m : List ℕ) → after l m ≡ true → order l m ≡ Greater
after_order l m h =
    by_order l m (λ o. not_both h (after_as l m o)) (λ o. not_both h (after_as l m o)) (λ o. o)

-- where l is not after m, what is before l is before m too, and what m is before, l is not after
before_too : (k l m : List ℕ) → order k l ≡ Less → after l m ≡ false → order k m ≡ Less
before_too k l m h n =
    by_order l m (before_trans k l m h) (λ o. rw (← order_same l m o) h) (λ o. not_both (after_as l m o) n)

not_after_too : (l m n : List ℕ) → after l m ≡ false → order m n ≡ Less → after l n ≡ false
not_after_too l m n h b =
    by_order l m (λ o. after_as l n (before_trans l m n o b)) (λ o. rw (order_same l m o) (after_as m n b))
    (λ o. not_both (after_as l m o) h)

-- ---- entries sorted by key

unfoldable pub insert : Entry → List Entry → List Entry
insert e [] = e ∷ []
insert e (f ∷ t) = elim (after e.key f.key) [ true ↦ f ∷ insert e t | false ↦ e ∷ (f ∷ t) ]

unfoldable pub sorted : List Entry → List Entry
sorted [] = []
sorted (e ∷ p) = insert e (sorted p)

-- a plain table and the machine's: the same entries sorted by key, no key twice
pub record Alike (p t : List Entry) : Type 0 where
  pub sorts : sorted p ≡ t
  pub rises : rising t ≡ true

pub nothing_alike : Alike [] []
unfolding sorted rising
nothing_alike = record { sorts = refl; rises = refl }

length_insert : (e : Entry) (t : List Entry) → length (insert e t) ≡ suc (length t)
unfolding insert
length_insert e [] = refl
length_insert e (f ∷ t) =
    let ih = length_insert e t in
    by_test (after e.key f.key) (λ a. rw (insert, a) (ap suc ih)) (λ a. rw (insert, a))

length_sorted : (p : List Entry) → length (sorted p) ≡ length p
unfolding sorted
length_sorted [] = refl
length_sorted (e ∷ p) = length_insert e (sorted p) ∙ ap suc (length_sorted p)

keys_insert : (e : Entry) (t : List Entry) → keys_of (insert e t) ≡ place e.key (keys_of t)
unfolding insert place
keys_insert e [] = refl
keys_insert e (f ∷ t) =
    let ih = keys_insert e t in
    by_test (after e.key f.key) (λ a. rw (insert, place, a) (ap (λ l. f.key ∷ l) ih)) (λ a. rw (insert, place, a))

keys_sorted : (p : List Entry) → keys_of (sorted p) ≡ all_keys p
unfolding sorted all_keys
keys_sorted [] = refl
keys_sorted (e ∷ p) = keys_insert e (sorted p) ∙ ap (place e.key) (keys_sorted p)

-- ---- what is found in a sorted table

-- what the machine finds under a key: its value, and whether it is there
abbrev Finds : List ℕ → List Entry → Option (List ℕ) → Bool → Type 0
Finds k t v b = (value_of k t ≡ v) × (holds k t ≡ b)

find_own : (e : Entry) (t : List Entry) → Finds e.key (insert e t) (some e.value) true
unfolding insert value_of holds
find_own e [] = rw (value_of, holds, order_refl e.key) (refl, refl)
find_own e (f ∷ t) =
    let ih = find_own e t in
    by_test (after e.key f.key)
    (λ a. rw (insert, a, value_of, holds, after_order e.key f.key a) ih)
    (λ a. rw (insert, a, value_of, holds, order_refl e.key) (refl, refl))

find_past :
    (k : List ℕ) (e : Entry) (t : List Entry) → same k e.key ≡ false → Finds k (insert e t) (value_of k t) (holds k t)
unfolding insert value_of holds
find_past k e [] n =
    by_other k e.key n (λ o. rw (value_of, holds, o) (refl, refl)) (λ o. rw (value_of, holds, o) (refl, refl))
find_past k e (f ∷ t) n = by_test (after e.key f.key) (behind (find_past k e t n)) in_front
  where
    Past : List Entry → Type 0
    Past u = Finds k (insert e u) (value_of k u) (holds k u)

    behind : Past t → after e.key f.key ≡ true → Past (f ∷ t)
    behind ih a =
        by_order k f.key
        (λ o. rw (insert, a, value_of, holds, o) (refl, refl))
        (λ o. rw (insert, a, value_of, holds, o) (refl, refl))
        (λ o. rw (insert, a, value_of, holds, o) ih)

    in_front : after e.key f.key ≡ false → Past (f ∷ t)
    in_front a =
        by_other k e.key n
        (λ o. rw (insert, a, value_of, holds, o, before_too k e.key f.key o a) (refl, refl))
        (λ o. rw (insert, a, value_of, holds, o) (refl, refl))

find_sorted : (k : List ℕ) (p : List Entry) → Finds k (sorted p) (lookup k p) (stands k p)
unfolding sorted lookup stands value_of holds
find_sorted k [] = (refl, refl)
find_sorted k (e ∷ p) =
    let ih = find_sorted k p in
    by_test (same k e.key)
    (λ s. rw (lookup, stands, s, same_equal k e.key s) (find_own e (sorted p)))
    (λ s. let h = find_past k e (sorted p) s in rw (lookup, stands, s) (h.0 ∙ ih.0, h.1 ∙ ih.1))

-- ---- a sorted table that rises has no key twice

rest_after : (e f : Entry) (t : List Entry) → rising (f ∷ insert e t) ≡ true → rising (f ∷ t) ≡ true
unfolding insert rising
rest_after e f [] r = refl
rest_after e f (g ∷ t) r =
    let ih = rest_after e g t in
    by_test (after e.key g.key)
    (λ a. let (fg, rg) = rising_parts f g (insert e t) (rw (insert, a) at r) in rising_from f g t fg (ih rg))
    (λ a. let (fe, re) = rising_parts f e (g ∷ t) (rw (insert, a) at r) in rising_skip f e (g ∷ t) fe re)

rest_rises : (e : Entry) (t : List Entry) → rising (insert e t) ≡ true → rising t ≡ true
unfolding insert rising
rest_rises e [] r = refl
rest_rises e (f ∷ t) r =
    by_test (after e.key f.key)
    (λ a. rest_after e f t (rw (insert, a) at r))
    (λ a. rising_tail e (f ∷ t) (rw (insert, a) at r))

new_key : (e : Entry) (t : List Entry) → rising (insert e t) ≡ true → holds e.key t ≡ false
unfolding insert holds
new_key e [] r = refl
new_key e (f ∷ t) r =
    let ih = new_key e t in
    by_test (after e.key f.key)
    (λ a. rw (holds, after_order e.key f.key a) (ih (rising_tail f (insert e t) (rw (insert, a) at r))))
    (λ a. rw (holds, (rising_parts e f t (rw (insert, a) at r)).0))

-- ---- changes

-- an entry that is not after the first of a rising table stands in front of the others
insert_first : (e f : Entry) (t : List Entry) → after e.key f.key ≡ false → rising (f ∷ t) ≡ true → insert e t ≡ e ∷ t
unfolding insert
insert_first e f [] n r = refl
insert_first e f (g ∷ t) n r = rw (insert, not_after_too e.key f.key g.key n (rising_parts f g t r).0)

remove_own : (e : Entry) (t : List Entry) → remove e.key (insert e t) ≡ t
unfolding insert remove
remove_own e [] = rw (remove, order_refl e.key)
remove_own e (f ∷ t) =
    let ih = remove_own e t in
    by_test (after e.key f.key)
    (λ a. rw (insert, a, remove, after_order e.key f.key a) (ap (λ u. f ∷ u) ih))
    (λ a. rw (insert, a, remove, order_refl e.key))

remove_past :
    (k : List ℕ) (e : Entry) (t : List Entry) → same k e.key ≡ false → rising t ≡ true →
    remove k (insert e t) ≡ insert e (remove k t)
unfolding insert remove
remove_past k e [] n r = by_other k e.key n (λ o. rw (remove, o)) (λ o. rw (remove, o))
remove_past k e (f ∷ t) n r =
    let ih = remove_past k e t n (rising_tail f t r) in
    by_test (after e.key f.key) (behind ih) (λ a. by_other k e.key n (before-both a) (between a))
  where
    Past : List Entry → Type 0
    Past u = remove k (insert e u) ≡ insert e (remove k u)

    behind : Past t → after e.key f.key ≡ true → Past (f ∷ t)
    behind ih a =
        by_order k f.key
        (λ o. rw (insert, a, remove, o, insert, a))
        (λ o. rw (insert, a, remove, o))
        (λ o. rw (insert, a, remove, o, insert, a) (ap (λ u. f ∷ u) ih))

    before-both : after e.key f.key ≡ false → order k e.key ≡ Less → Past (f ∷ t)
    before-both a o = rw (insert, a, remove, o, before_too k e.key f.key o a, insert, a)

    between : after e.key f.key ≡ false → order k e.key ≡ Greater → Past (f ∷ t)
    between a o =
        by_order k f.key
        (λ q. rw (insert, a, remove, o, q, insert, a))
        (λ q. rw (insert, a, remove, o, q, insert_first e f t a r))
        (λ q. rw (insert, a, remove, o, q, insert, a))

remove_sorted : (k : List ℕ) (p : List Entry) → rising (sorted p) ≡ true → remove k (sorted p) ≡ sorted (without k p)
unfolding sorted without remove
remove_sorted k [] r = refl
remove_sorted k (e ∷ p) r =
    let rest = rest_rises e (sorted p) r in
    let ih = remove_sorted k p rest in
    by_test (same k e.key)
    (λ s. rw (without, s) (own (same_equal k e.key s) ∙ ih))
    (λ s. rw (without, s) (remove_past k e (sorted p) s rest ∙ ap (insert e) ih))
  where
    -- the key stood nowhere else
    own : k ≡ e.key → remove k (insert e (sorted p)) ≡ remove k (sorted p)
    own i = rw i (remove_own e (sorted p) ∙ sym (absent_remove e.key (sorted p) (new_key e (sorted p) r)))

put_inserts : (k v : List ℕ) (t : List Entry) → rising t ≡ true → put k v t ≡ insert (entry k v) (remove k t)
unfolding put insert remove
put_inserts k v [] r = refl
put_inserts k v (f ∷ t) r =
    let ih = put_inserts k v t (rising_tail f t r) in
    by_order k f.key
    (λ o. rw (put, remove, o, insert, after_as k f.key o))
    (λ o. rw (put, remove, o) (sym (insert_first (entry k v) f t (after_as k f.key o) r)))
    (λ o. rw (put, remove, o, insert, after_as k f.key o) (ap (λ u. f ∷ u) ih))

put_sorted :
    (k v : List ℕ) (p : List Entry) → rising (sorted p) ≡ true → put k v (sorted p) ≡ sorted (entry k v ∷ without k p)
unfolding sorted
put_sorted k v p r = put_inserts k v (sorted p) r ∙ ap (insert (entry k v)) (remove_sorted k p r)

-- ---- every call

-- an answer of the plain table, and the machine's effect on a table
abbrev Agree : Reply → Effect → List Entry → Type 0
Agree r f t = (r.result ≡ said f) × Alike r.table (left f t)

set_agrees :
    (k : List ℕ) (v : Option (List ℕ)) (p : List Entry) → rising (sorted p) ≡ true → Agree (plain_set k v p) (setting k v (sorted p)) (sorted p)
unfolding plain_set setting stored left said
set_agrees k none p r = (refl, record { sorts = sym (remove_sorted k p r); rises = rising_remove k (sorted p) r })
set_agrees k (some v) p r =
    by_test (stands k p) (λ s. rw (plain_set, setting, stored, held, s) (refl, taken)) new
  where
    held : holds k (sorted p) ≡ stands k p
    held = (find_sorted k p).1

    taken : Alike (entry k v ∷ without k p) (put k v (sorted p))
    taken = record { sorts = sym (put_sorted k v p r); rises = rising_put k v (sorted p) r }

    new : stands k p ≡ false → Agree (plain_set k (some v) p) (setting k (some v) (sorted p)) (sorted p)
    new s =
        by_test (ltb (length p) 4)
        (λ l. rw (plain_set, setting, stored, held, s, length_sorted p, l) (refl, taken))
        (λ l. rw (plain_set, setting, stored, held, s, length_sorted p, l) (refl, record { sorts = refl; rises = r }))

alike_same : (u v : Option (List ℕ)) → alike u v ≡ same_value u v
unfolding alike same_value same_bytes
alike_same none none = refl
alike_same none (some v) = refl
alike_same (some u) none = refl
alike_same (some u) (some v) = (tests u v).0

agrees : (w : Words) (p : List Entry) → rising (sorted p) ≡ true → Agree (plain w p) (effect w (sorted p)) (sorted p)
unfolding plain effect left said
agrees (get k) p r = (ap value (sym (find_sorted k p).0), record { sorts = refl; rises = r })
agrees (set k v) p r = set_agrees k v p r
agrees (setif k e v) p r =
    let test = alike_same (lookup k p) e in
    by_test (alike (lookup k p) e)
    (λ s. rw (plain, effect, (find_sorted k p).0, ← test, s) (set_agrees k v p r))
    (λ s. rw (plain, effect, (find_sorted k p).0, ← test, s) (refl, record { sorts = refl; rises = r }))
agrees (del k) p r = set_agrees k none p r
agrees (keys b) p r = (ap listed (sym (keys_sorted p)), record { sorts = refl; rises = r })

pub plain_agrees :
    (w : Words) (p t : List Entry) → Alike p t →
    ((plain w p).result ≡ said (effect w t)) × Alike (plain w p).table (left (effect w t) t)
plain_agrees w p t a = rw (← a.sorts) (agrees w p (rw a.sorts a.rises))
