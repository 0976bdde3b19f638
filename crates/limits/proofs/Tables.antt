-- What a call does to a table that fits: the table that it writes fits, and what it answers has the measures of an answer.
use mathlib.Core.Path.{◌≡◌, refl}
use mathlib.Core.List.{List, [], ◌∷◌}
use mathlib.Core.Bool.{Bool, true, false}
use mathlib.Core.Option.{Option, none, some}
use Prim.Native.Nat.{ℕ}
use native.Mathlib.Omega.{arith}
use lib.ListN.{length-map}
use Rattle.std.specs.declared.cmp.Ordering.{Ordering}
use Rattle.std.specs.declared.cmp.Ordering.TheVariants.{Less, Equal, Greater}
use Rattle.entries.specs.Entries.{Entry, order, value_of, stored, keys_of}
use Rattle.table.specs.Form.{sized, rising, ValueAtMost, fits, same_value}
use Rattle.table.proofs.Fitting.{sized_parts, fits_parts}
use Rattle.table.proofs.Changes.{stored_fits}
use Rattle.model.specs.Measures.{max_entries, max_value_bytes}
use Rattle.model.specs.Calls.{Words, get, set, setif, del, keys, Effect, answers, writes, setting, effect}
use Rattle.model.specs.Cluster.{fresh_copy}
use Rattle.limits.specs.Lists.{All, nil, cons}
use Rattle.limits.specs.Measures.{Limits, Fits, CopyWithin, KeySized, ValueSized, WordsSized, ResultWithin}

value_sized : (long : ℕ) (k : List ℕ) (t : List Entry) → sized long t ≡ true → ValueAtMost long (value_of k t)
unfolding value_of
value_sized long k [] h = tt
value_sized long k (e ∷ t) h = go (order k e.key) refl (value_sized long k t (sized_parts long e t h).others)
  where
    go : (o : Ordering) → order k e.key ≡ o → ValueAtMost long (value_of k t) → ValueAtMost long (value_of k (e ∷ t))
    go Less d ih = rw (value_of, d) tt
    go Equal d ih = rw (value_of, d) (sized_parts long e t h).value_top
    go Greater d ih = rw (value_of, d) ih

keys_sized : (long : ℕ) (t : List Entry) → sized long t ≡ true → All KeySized (keys_of t)
keys_sized long [] h = nil
keys_sized long (e ∷ t) h =
    let s = sized_parts long e t h in
    cons (s.key_low, s.key_top) (keys_sized long t s.others)

-- an effect within the measures
abbrev pub EffectWithin : Effect → Type 0
EffectWithin (answers r) = ResultWithin r
EffectWithin (writes t) = Fits t

setting_within : (k : List ℕ) (v : Option (List ℕ)) (t : List Entry) → KeySized k → ValueSized v → Fits t → EffectWithin (setting k v t)
unfolding setting
setting_within k v t s j h = go (stored max_entries k v t) refl
  where
    go : (o : Option (List Entry)) → stored max_entries k v t ≡ o → EffectWithin (setting k v t)
    go none e = rw (setting, e) tt
    go (some u) e = rw (setting, e) (stored_fits max_entries max_value_bytes k s.0 s.1 v t u j h e)

pub effect_within : (w : Words) (t : List Entry) → WordsSized w → Fits t → EffectWithin (effect w t)
unfolding effect
effect_within (get k) t s h = value_sized max_value_bytes k t (fits_parts _ _ t h).sizes
effect_within (set k v) t s h = setting_within k v t s.0 s.1 h
effect_within (setif k e v) t s h = go (same_value (value_of k t) e) refl
  where
    go : (b : Bool) → same_value (value_of k t) e ≡ b → EffectWithin (effect (setif k e v) t)
    go true d = rw (effect, d) (setting_within k v t s.0 s.2 h)
    go false d = rw (effect, d) tt
effect_within (del k) t s h = setting_within k none t s tt h
effect_within (keys b) t s h =
    let f = fits_parts _ _ t h in
    (rw length-map f.few, keys_sized max_value_bytes t f.sizes)

-- the copy of a bucket that was never written
pub fresh_copy_within : (l : Limits) → CopyWithin l 0 fresh_copy
unfolding fits sized rising
fresh_copy_within l = record { election = omega arith; counter = omega arith; unwritten = λ e. refl; written = λ e. refl; empty = λ e. refl; fitting = refl }
