-- The place of a key among the entries: how it is found, and what it says of `put`, `remove` and `value_of`.
use mathlib.Core.Path.{◌≡◌, refl, sym, ap, ◌∙◌}
use mathlib.Core.List.{List, [], ◌∷◌, ◌++◌}
use mathlib.Core.Bool.{Bool, true, false}
use mathlib.Core.Option.{some}
use Prim.Native.Nat.{ℕ, suc, ◌≤◌, ◌<◌, ◌+◌}
use native.Mathlib.Omega.{arith}
use lib.ListN.{length, take, drop, get_or, set, drop_of_length-le}
use Rattle.std.specs.declared.cmp.Ordering.TheVariants.{Less, Equal, Greater}
use Rattle.entries.specs.Entries.{Entry, entry, order, value_of, holds, put, remove}
use Rattle.entries.specs.Places.{leading, Leads}
use Rattle.entries.proofs.Changes.{by_order}

pub leading_within : (k : List ℕ) (t : List Entry) → leading k t ≤ length t
unfolding leading
leading_within k [] = omega arith
leading_within k (e ∷ t) =
    let ih = leading_within k t in
    by_order k e.key (λ o. rw (leading, o) (omega arith)) (λ o. rw (leading, o) (omega arith)) (λ o. rw (leading, o) (omega arith))

-- a test that is false on one side and true on the other
clash : {P : Type 0} {b : Bool} → b ≡ true → b ≡ false → P
clash h k = let z : ◌≡◌ {A = ℕ} 0 1 = cc in absurd (omega arith)

pub held_within : (k : List ℕ) (t : List Entry) → holds k t ≡ true → leading k t < length t
unfolding holds leading
held_within k [] h = clash h refl
held_within k (e ∷ t) h =
    let ih = held_within k t in
    by_order k e.key (λ o. clash h (rw (holds, o)))
    (λ o. rw (leading, o) (omega arith))
    (λ o. let i = ih (rw (holds, o) at h) in rw (leading, o) (omega arith))

pub held_put : (k v : List ℕ) (t : List Entry) → holds k t ≡ true → put k v t ≡ set t (leading k t) (entry k v)
unfolding holds put leading
held_put k v [] h = clash h refl
held_put k v (e ∷ t) h =
    let ih = held_put k v t in
    by_order k e.key (λ o. clash h (rw (holds, o))) (λ o. rw (put, leading, o))
    (λ o. rw (put, leading, o) (ap (λ r. e ∷ r) (ih (rw (holds, o) at h))))

pub new_put : (k v : List ℕ) (t : List Entry) → holds k t ≡ false → put k v t ≡ take (leading k t) t ++ (entry k v ∷ drop (leading k t) t)
unfolding holds put leading
new_put k v [] h = refl
new_put k v (e ∷ t) h =
    let ih = new_put k v t in
    by_order k e.key (λ o. rw (put, leading, o)) (λ o. clash (rw (holds, o)) h)
    (λ o. rw (put, leading, o) (ap (λ r. e ∷ r) (ih (rw (holds, o) at h))))

pub held_remove : (k : List ℕ) (t : List Entry) → holds k t ≡ true → remove k t ≡ take (leading k t) t ++ drop (suc (leading k t)) t
unfolding holds remove leading
held_remove k [] h = clash h refl
held_remove k (e ∷ t) h =
    let ih = held_remove k t in
    by_order k e.key (λ o. clash h (rw (holds, o))) (λ o. rw (remove, leading, o))
    (λ o. rw (remove, leading, o) (ap (λ r. e ∷ r) (ih (rw (holds, o) at h))))

pub held_value : (k : List ℕ) (t : List Entry) (d : Entry) → holds k t ≡ true → value_of k t ≡ some (get_or t (leading k t) d).value
unfolding holds value_of leading
held_value k [] d h = clash h refl
held_value k (e ∷ t) d h =
    let ih = held_value k t d in
    by_order k e.key (λ o. clash h (rw (holds, o))) (λ o. rw (value_of, leading, o))
    (λ o. rw (value_of, leading, o) (ih (rw (holds, o) at h)))

-- ---- the search: the keys of the first i entries stand before k
pub record Placing (k : List ℕ) (t : List Entry) (i : ℕ) : Type 0 where
  pub inside : i ≤ length t
  pub low : length t ≤ 4
  pub passed : leading k t ≡ i + leading k (drop i t)
  pub same : holds k t ≡ holds k (drop i t)

pub placing_starts : {k : List ℕ} {t : List Entry} → length t ≤ 4 → Placing k t 0
placing_starts h = record { inside = omega arith; low = h; passed = omega arith; same = refl }

module _ {k : List ℕ} {t : List Entry} {i : ℕ} (c : Placing k t i) where
  module _ (e : Entry) (next : drop i t ≡ e ∷ drop (i + 1) t) where
    pub placing_before : order k e.key ≡ Less → Leads k t i false
    unfolding leading holds
    placing_before o =
        record {
          at_is = sym (c.passed ∙ rw (next, leading, o) (omega arith));
          held_is = sym (c.same ∙ rw (next, holds, o));
          low = c.low;
        }

    pub placing_same : order k e.key ≡ Equal → Leads k t i true
    unfolding leading holds
    placing_same o =
        record {
          at_is = sym (c.passed ∙ rw (next, leading, o) (omega arith));
          held_is = sym (c.same ∙ rw (next, holds, o));
          low = c.low;
        }

    pub placing_goes_on : i < length t → order k e.key ≡ Greater → Placing k t (i + 1)
    unfolding leading holds
    placing_goes_on h o =
        record {
          inside = omega arith;
          low = c.low;
          passed = c.passed ∙ rw (next, leading, o) (omega arith);
          same = c.same ∙ rw (next, holds, o);
        }

  pub placing_ends : length t ≤ i → Leads k t (length t) false
  unfolding leading holds
  placing_ends h =
      let e : drop i t ≡ [] = drop_of_length-le t {i = i} h in
      record {
        at_is = sym (c.passed ∙ rw e (omega (arith, c.inside)));
        held_is = sym (c.same ∙ rw e);
        low = c.low;
      }
