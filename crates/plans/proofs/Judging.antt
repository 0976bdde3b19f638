-- What refusals tell of a line, and the plan of a call with the effect that it asks for.
use Rattle.std.specs.Prelude.{Result, Ok, Err}
use Rattle.std.proofs.Common.{◌≡◌, ℕ, ◌<◌, ◌≤◌, min, Bool, true, false, leb, List, sym, refl, ap, ◌∙◌, subst, true≢false, arith, leb-false}
use native.Mathlib.Nat.{min-le_left}
use Rattle.model.specs.Measures.{max_accepted}
use Rattle.server.specs.declared.Message.{Message}
use Rattle.server.specs.declared.Words.{Words}
use Rattle.server.specs.declared.Effect.{Effect}
use Rattle.server.specs.Views.{words_in}
use Rattle.memory.specs.declared.Counts.{Counts}
use Rattle.memory.specs.Layout.{server_room, bucket_room, slot_of}
use Rattle.refusals.specs.declared.Refusal.{Refusal}
use Rattle.refusals.specs.declared.Refusal.TheVariants.{NotThere, BadLength, LinesSpent, NoSuchMessage}
use Rattle.refusals.specs.Refusals.{inside, refused_where, message_refusal}
use Rattle.moves.specs.declared.Local.{Local}
use Rattle.moves.specs.Reactions.{EffectNeeded}
use Rattle.views.specs.Memory.{local_at, table_at}
use Rattle.plans.specs.declared.Step.{Step}
use Rattle.plans.specs.declared.Plan.{Plan}
use Rattle.plans.specs.Plans.{no_effect, cut_step, bad_lengths, call_bucket, call_plan, call_at, message_step}
use Rattle.plans.specs.Arrays.{Measured, servers, Called, CallPlanned}

-- ---- refusals

neither : (t u : Bool) → elim t [ true ↦ false | false ↦ elim u [ true ↦ false | false ↦ true ] ] ≡ true → (t ≡ false) × (u ≡ false)
neither true u h = absurd (true≢false (sym h))
neither false true h = absurd (true≢false (sym h))
neither false false h = (refl, refl)

pub inside_there : (c : Counts) (s b : ℕ) → inside c s b ≡ true → (s < c.servers) × (b < c.buckets)
unfolding inside
inside_there c s b h = let n = neither (leb c.servers s) (leb c.buckets b) h in (leb-false _ _ n.0, leb-false _ _ n.1)

-- a server and a bucket that are there have a place in the arrays
pub inside_room : (c : Counts) (s b : ℕ) → Measured c → inside c s b ≡ true → (s < server_room) × (b < bucket_room)
inside_room c s b m h =
    let n = inside_there c s b h in
    (omega (arith, n.0, m.servers), omega (arith, n.1, m.buckets))

refused_or : (t z : Bool) (u : Unit {0}) → ◌≡◌ {A = Result (Unit {0}) Refusal} (elim t [ true ↦ Err LinesSpent | false ↦ refused_where z NoSuchMessage ]) (Ok u) → z ≡ false
refused_or true z u h = let y : ◌≡◌ {A = ℕ} 0 1 = cc in absurd (omega arith)
refused_or false true u h = let y : ◌≡◌ {A = ℕ} 0 1 = cc in absurd (omega arith)
refused_or false false u h = refl

-- a message that is not refused is in the list
pub in_list : (c : Counts) (i : ℕ) (u : Unit {0}) → message_refusal c i ≡ Ok u → i < c.messages
unfolding message_refusal
in_list c i u h = leb-false _ _ (refused_or (leb max_accepted c.lines) (leb c.messages i) u h)

-- the server and the bucket that a message names have a place in the arrays
receiver_slot : (x : Step) (m : Message) → x.server ≡ min 6 m.receiver → x.bucket ≡ min 7 m.bucket → (x.server < server_room) × (x.bucket < bucket_room)
receiver_slot x m e f =
    let s : x.server ≤ 6 = rw e (min-le_left 6 m.receiver) in
    let b : x.bucket ≤ 7 = rw f (min-le_left 7 m.bucket) in
    (omega arith, omega arith)

pub step_slot : (c : Counts) (i : ℕ) (removes : Bool) (m : Message) (x : Step) → x ≡ message_step c i removes m → (x.server < server_room) × (x.bucket < bucket_room)
step_slot c i removes m x e = receiver_slot x m (ap (λ y. y.server) e) (ap (λ y. y.bucket) e)

pub cut_slot : (c : Counts) (i : ℕ) (m : Message) (x : Step) → x ≡ cut_step c i m → (x.server < server_room) × (x.bucket < bucket_room)
cut_slot c i m x e = receiver_slot x m (ap (λ y. y.server) e) (ap (λ y. y.bucket) e)

-- ---- calls

module _ (heads slots copies : List ℕ) (c : Counts) (s : ℕ) (w : Words) (p : Result Plan Refusal) where
  pub call_nowhere : (b : ℕ) → b ≡ call_bucket c w → inside c s b ≡ false → p ≡ Err NotThere → CallPlanned heads slots copies c s w p
  unfolding call_at
  call_nowhere b e h q =
      let h' : inside c s (call_bucket c w) ≡ false = ap (inside c s) (sym e) ∙ h in
      record { effect = no_effect; needed = λ there fit. absurd (true≢false (sym there ∙ h')); is = rw (call_at, h') q }

  pub call_unfit : (b : ℕ) → b ≡ call_bucket c w → inside c s b ≡ true → bad_lengths w ≡ true → p ≡ Err BadLength → CallPlanned heads slots copies c s w p
  unfolding call_at
  call_unfit b e h k q =
      let h' : inside c s (call_bucket c w) ≡ true = ap (inside c s) (sym e) ∙ h in
      record { effect = no_effect; needed = λ there fit. absurd (true≢false (sym k ∙ fit)); is = rw (call_at, h', k) q }

  pub called : (b k : ℕ) (l : Local) (f : Effect) → k ≡ slot_of s b
      → l ≡ local_at (servers heads slots) s k
      → EffectNeeded c.servers l (words_in w) (table_at copies k) f
      → p ≡ call_plan c s b w l f
      → Called heads slots copies c s b w p
  called b k l f h e g q =
      let e' : l ≡ local_at (servers heads slots) s (slot_of s b) = e ∙ ap (local_at (servers heads slots) s) h in
      record {
        effect = f;
        needed =
            subst (λ x. EffectNeeded c.servers x (words_in w) (table_at copies (slot_of s b)) f) e'
            (subst (λ j. EffectNeeded c.servers l (words_in w) (table_at copies j) f) h g);
        is = q ∙ ap (λ x. call_plan c s b w x f) e';
      }

  pub call_fit : (b : ℕ) → b ≡ call_bucket c w → inside c s b ≡ true → bad_lengths w ≡ false → Called heads slots copies c s b w p → CallPlanned heads slots copies c s w p
  unfolding call_at
  call_fit b e h k x =
      let h' : inside c s (call_bucket c w) ≡ true = ap (inside c s) (sym e) ∙ h in
      record {
        effect = x.effect;
        needed = λ there fit.
            subst (λ y. EffectNeeded c.servers (local_at (servers heads slots) s (slot_of s y)) (words_in w) (table_at copies (slot_of s y)) x.effect) e x.needed;
        is = x.is ∙ ap (λ y. call_plan c s y w (local_at (servers heads slots) s (slot_of s y)) x.effect) e ∙ rw (call_at, h', k);
      }
