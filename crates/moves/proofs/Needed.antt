-- What the line of a call needs of the call's effect: the effect itself always does, and where it is not needed any that writes nothing.
use mathlib.Core.Path.{◌≡◌, refl, sym, ap, ◌∙◌}
use mathlib.Core.Bool.{Bool, true, false, true≢false}
use mathlib.Core.List.{List}
use mathlib.Core.Option.{none}
use mathlib.Core.Logic.{◌⊎◌, inl, inr}
use Prim.Native.Nat.{ℕ, ◌≤◌, ◌<◌}
use native.Mathlib.Omega.{arith}
use borrow.Author.Tests.{le-leb, leb-false, ltb-true, ne_eqb}
use lib.Dec.{leb, ltb, eqb}
use Rattle.entries.specs.Entries.{Entry}
use Rattle.model.specs.Calls as calls
use Rattle.server.specs.declared.Words.{Words}
use Rattle.server.specs.declared.Effect.{Effect}
use Rattle.server.specs.Views.{words_of_kind, words_by, words_in, effect_in}
use Rattle.moves.specs.declared.Local.{Local}
use Rattle.moves.specs.Moves.{recovered, may_write, needs_effect}
use Rattle.moves.specs.Reactions.{EffectNeeded}

pub known : (n : ℕ) (l : Local) (words : calls.Words) (copy : List Entry) (f : Effect) → effect_in f ≡ calls.effect words copy → EffectNeeded n l words copy f
known n l words copy f e = record { alone = λ h. e; written = λ h. ap calls.effect_writes e }

-- `get` is 1; 0 and what is above 4 stand for `keys`
other_kinds : (kind : ℕ) → may_write kind ≡ false → (kind < 2) ⊎ (4 < kind)
other_kinds kind h = go (ltb kind 2) refl
  where
    go : (z : Bool) → ltb kind 2 ≡ z → (kind < 2) ⊎ (4 < kind)
    go true e = inl (ltb-true _ _ e)
    go false e = inr (leb-false kind 4 (unfold may_write in (rw (may_write, e) at h)))

-- these calls only answer
only_answers : (w : Words) (t : List Entry) → may_write w.kind ≡ false → calls.effect_writes (calls.effect (words_in w) t) ≡ none
unfolding words_by calls.effect calls.effect_writes
only_answers w t h = go (eqb w.kind 1) refl
  where
    other : (k : ℕ) → 2 ≤ k → k ≤ 4 → eqb w.kind k ≡ false
    other k low high = ne_eqb w.kind k (λ e. elim (other_kinds w.kind h) [ inl x ↦ omega (arith, x, e) | inr x ↦ omega (arith, x, e) ])

    go : (z : Bool) → eqb w.kind 1 ≡ z → calls.effect_writes (calls.effect (words_in w) t) ≡ none
    go true e = rw (words_of_kind, e)
    go false e = rw (words_of_kind, e, other 2 (omega arith) (omega arith), other 3 (omega arith) (omega arith), other 4 (omega arith) (omega arith))

pub unneeded : (n : ℕ) (l : Local) (w : Words) (copy : List Entry) (f : Effect) → needs_effect n w.kind l ≡ false → calls.effect_writes (effect_in f) ≡ none
    → EffectNeeded n l (words_in w) copy f
unfolding needs_effect
unneeded n l w copy f h e =
    record {
      alone = λ one. absurd (true≢false (rw (needs_effect, le-leb n 1 one) at h));
      written = λ z. e ∙ sym (only_answers w copy (reads z (leb n 1) refl));
    }
  where
    reads : recovered l ≡ true → (z : Bool) → leb n 1 ≡ z → may_write w.kind ≡ false
    reads r true d = absurd (true≢false (rw (needs_effect, d) at h))
    reads r false d = rw (needs_effect, d, r) at h
