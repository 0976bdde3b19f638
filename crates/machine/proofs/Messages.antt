-- A message that is handed over: what its parts leave is the run of its plan, though no plan is made.
use Rattle.std.specs.Prelude.{Result, Ok, Err}
use Rattle.std.proofs.Common.{◌≡◌, ℕ, ◌<◌, ◌≤◌, Bool, true, false, List, sym, refl, ap, ◌∙◌, subst, true≢false, arith}
use native.Mathlib.Nat.{min-le_left, min-le_right}
use Rattle.entries.specs.Decoded.{table_in}
use Rattle.server.specs.declared.Effect.{Effect}
use Rattle.server.specs.declared.Message.{Message}
use Rattle.server.specs.Views.{effect_in}
use Rattle.memory.specs.declared.Counts.{Counts}
use Rattle.memory.specs.Layout.{slot_of, counts_at, message_at}
use Rattle.refusals.specs.declared.Refusal.{Refusal}
use Rattle.refusals.specs.declared.Refusal.TheVariants.{ClusterWrong}
use Rattle.refusals.specs.Refusals.{places_refusal, message_refusal}
use Rattle.moves.specs.declared.Local.{Local}
use Rattle.moves.specs.declared.Move.{Move}
use Rattle.moves.specs.Moves.{handled_move, reads_table}
use Rattle.views.specs.Memory.{Memory, memory, local_at, standing}
use Rattle.plans.specs.declared.Step.{Step}
use Rattle.plans.specs.declared.Plan.{Plan}
use Rattle.plans.specs.declared.Plan.TheVariants.{Loses, Moves}
use Rattle.plans.specs.Plans.{no_effect, carried, unless, move_if_places_left, message_step, lost_step, gone, receiver_at, hand_plan, hand_at}
use Rattle.plans.specs.Arrays.{Measured, asked_at}
use Rattle.runs.specs.declared.Report.{Report}
use Rattle.runs.specs.Carrying.{Losable, Carriable}
use Rattle.runs.specs.Runs.{Ran, ran, refused_run, lost_run, carried_run, accepted, executed}
use Rattle.machine.specs.Steps.{Handable, Lost, handled_run, HandedListed, HandRan}
use Rattle.machine.proofs.Executables.{places_there, stays}
use Rattle.machine.proofs.Executing.{loses}

pub carries : {c : Counts} {x : Step} {v : Move} (q : Result (Unit {0}) Refusal) (u : Unit {0}) → Handable c x → q ≡ places_refusal c x.removes v.sends → q ≡ Ok u → Carriable c x v
carries {c} {x} {v} q u h e t =
    let m = h.measured in
    record {
      servers = m.servers;
      buckets = m.buckets;
      server = h.server;
      bucket = h.bucket;
      index = omega (arith, h.listed, m.messages);
      losable = record { messages = m.messages; there = λ _. h.listed };
      room = places_there c x.removes v.sends u (sym e ∙ t);
    }

module _ (m : Memory) (l : List ℕ) (c : Counts) (x : Step) (y : Message) (to : Local) where
  -- the move, unless q refuses it
  abbrev unless_by : Effect → Move → Result (Unit {0}) Refusal → Ran
  unless_by f v q = executed m l c (unless q (Ok (Moves (carried x v f))))

  moved_by : (f : Effect) (v : Move) → v ≡ handled_move c.servers x.server f.result y to → unless_by f v (places_refusal c x.removes v.sends) ≡ handled_run m l c x y to f
  moved_by f v e = ap (λ v. unless_by f v (places_refusal c x.removes v.sends)) e

  -- the move is carried out
  pub handled : (f : Effect) (v : Move) (q : Result (Unit {0}) Refusal) (u : Unit {0}) (z : Ran) → v ≡ handled_move c.servers x.server f.result y to
      → q ≡ places_refusal c x.removes v.sends → q ≡ Ok u → z ≡ carried_run m l c x v (table_in f.table) f → z ≡ handled_run m l c x y to f
  unfolding executed accepted unless
  handled f v q u z e h t g = g ∙ ap (unless_by f v) (sym t ∙ h) ∙ moved_by f v e

  -- 12
  pub no_places_left : (f : Effect) (v : Move) (q : Result (Unit {0}) Refusal) (r : Refusal) → v ≡ handled_move c.servers x.server f.result y to
      → q ≡ places_refusal c x.removes v.sends → q ≡ Err r → refused_run m l r ≡ handled_run m l c x y to f
  unfolding executed unless
  no_places_left f v q r e h t = ap (unless_by f v) (sym t ∙ h) ∙ moved_by f v e

  -- to a server that is not gone a message is handed over
  handed_to : (f : Effect) (z : Ran) → gone c x to ≡ false → z ≡ handled_run m l c x y to f → z ≡ executed m l c (hand_plan c x y to f)
  unfolding hand_plan
  handed_to f z g q = rw (hand_plan, g) q

-- ---- a message of the list

module _ (c : Counts) (i : ℕ) (removes : Bool) (y : Message) (x : Step) (e : x ≡ message_step c i removes y) where
  pub losable : Measured c → i < c.messages → Losable c x
  losable m h = record { messages = m.messages; there = λ _. rw (ap (λ x. x.index) e) h }

  pub handable : Measured c → i < c.messages → (to : Local) → gone c x to ≡ false → Handable c x
  handable m h to g = record {
    measured = m;
    server = stays c x to (rw e (min-le_right 6 y.receiver)) g;
    bucket = let b : x.bucket ≤ 7 = rw (ap (λ x. x.bucket) e) (min-le_left 7 y.bucket) in omega arith;
    listed = rw (ap (λ x. x.index) e) h;
  }

module _ (counts heads slots copies working texts queue payloads l : List ℕ) (c : Counts) (i : ℕ) (removes : Bool) where
  abbrev before : Memory
  before = memory counts heads slots copies working texts queue payloads

  -- the message, its step and its receiver as they were loaded
  module _ (y : Message) (x : Step) (to : Local) (ey : y ≡ message_at queue i) (ex : x ≡ message_step c i removes y) (et : to ≡ local_at before x.server (slot_of x.server x.bucket)) where
    step_is : x ≡ message_step c i removes (message_at queue i)
    step_is = ex ∙ ap (message_step c i removes) ey

    receiver_is : to ≡ receiver_at before i
    receiver_is = et ∙ ap (λ x. local_at before x.server (slot_of x.server x.bucket)) step_is

    listed : {m' : Memory} {l' : List ℕ} {r : Result Report Refusal} (f : Effect) → ran m' l' r ≡ executed before l c (hand_plan c x y to f)
        → (gone c x to ≡ false → reads_table c.servers y to ≡ true → effect_in f ≡ asked_at before x)
        → HandedListed before l c i removes m' l' r
    listed f q g = record {
      effect = f;
      asked = λ s h.
          g (ap (λ x. gone c x to) step_is ∙ ap (gone c (message_step c i removes (message_at queue i))) receiver_is ∙ s)
          (ap (λ y. reads_table c.servers y to) ey ∙ ap (reads_table c.servers (message_at queue i)) receiver_is ∙ h)
          ∙ ap (asked_at before) step_is;
      is =
          q
          ∙ ap (λ x. executed before l c (hand_plan c x y to f)) step_is
          ∙ ap (λ y. executed before l c (hand_plan c (message_step c i removes (message_at queue i)) y to f)) ey
          ∙ ap (λ to. executed before l c (hand_plan c (message_step c i removes (message_at queue i)) (message_at queue i) to f)) receiver_is;
    }

    -- to a server that is there it is handed over
    pub listed_handed : (f : Effect) {m' : Memory} {l' : List ℕ} {r : Result Report Refusal} → gone c x to ≡ false → (reads_table c.servers y to ≡ true → effect_in f ≡ asked_at before x)
        → ran m' l' r ≡ handled_run before l c x y to f → HandedListed before l c i removes m' l' r
    listed_handed f g a q = listed f (handed_to before l c x y to f _ g q) (λ _ t. a t)

    lost_plan_lem : gone c x to ≡ true → lost_run before l c (lost_step c x.index x.removes) ≡ executed before l c (hand_plan c x y to no_effect)
    unfolding hand_plan executed accepted
    lost_plan_lem g = rw (hand_plan, g)

    -- to a server that is gone it is lost
    pub listed_lost : {counts' queue' payloads' : List ℕ} {r : Report} → gone c x to ≡ true → Lost counts queue payloads c x counts' queue' payloads' r
        → HandedListed before l c i removes (memory counts' heads slots copies working texts queue' payloads') l (Ok r)
    listed_lost {counts'} {queue'} {payloads'} {r} g q =
        let q1 : Lost counts queue payloads c (message_step c i removes y) counts' queue' payloads' r = subst (λ x. Lost counts queue payloads c x counts' queue' payloads' r) ex q in
        let q2 : Lost counts queue payloads c (lost_step c i removes) counts' queue' payloads' r = record { rest = q1.rest; counted = q1.counted; report = q1.report } in
        listed no_effect
        (loses _ _ _ _ _ _ _ _ _ _ _ q2 ∙ ap (λ x. lost_run before l c (lost_step c x.index x.removes)) (sym ex) ∙ lost_plan_lem g)
        (λ s _. absurd (true≢false (sym g ∙ s)))

-- ---- the whole line

module _ (m : Memory) (l : List ℕ) (c : Counts) (e : c ≡ counts_at m.counts) (i : ℕ) (removes : Bool) where
  abbrev hand_or_refuse : Effect → Counts → Bool → Ran
  hand_or_refuse f c b = elim b [ true ↦ executed m l c (hand_at m c i removes f) | false ↦ refused_run m l ClusterWrong ]

  hand_by : (f : Effect) (b : Bool) → standing c ≡ b → elim (standing (counts_at m.counts)) [ true ↦ executed m l (counts_at m.counts) (hand_at m (counts_at m.counts) i removes f) | false ↦ refused_run m l ClusterWrong ] ≡ hand_or_refuse f c b
  hand_by f b s = ap (λ c. hand_or_refuse f c (standing c)) (sym e) ∙ ap (hand_or_refuse f c) s

  -- the plan, unless q refuses the line
  abbrev unless_hand : Effect → Result (Unit {0}) Refusal → Ran
  unless_hand f q = executed m l c (unless q (hand_plan c (message_step c i removes (message_at m.queue i)) (message_at m.queue i) (receiver_at m i) f))

  pub hands_listed : {m' : Memory} {l' : List ℕ} {r : Result Report Refusal} (q : Result (Unit {0}) Refusal) (u : Unit {0}) → standing c ≡ true → q ≡ message_refusal c i → q ≡ Ok u
      → HandedListed m l c i removes m' l' r → HandRan m l i removes m' l' r
  unfolding hand_at gone unless
  hands_listed q u s z t h = record {
    effect = h.effect;
    asked = λ _. rw (← e) (λ _ there reads. h.asked there reads);
    is = h.is ∙ ap (unless_hand h.effect) (sym t ∙ z) ∙ sym (hand_by h.effect true s);
  }

  not_refused : (q : Result (Unit {0}) Refusal) (r : Refusal) (u : Unit {0}) → q ≡ Err r → q ≡ Ok u → ⊥
  not_refused q r u h k = let y : ◌≡◌ {A = Result (Unit {0}) Refusal} (Err r) (Ok u) = sym h ∙ k in let z : ◌≡◌ {A = ℕ} 0 1 = cc in omega arith

  pub hands_refused : (q : Result (Unit {0}) Refusal) (r : Refusal) → standing c ≡ true → q ≡ message_refusal c i → q ≡ Err r → HandRan m l i removes m l (Err r)
  unfolding hand_at executed unless
  hands_refused q r s z t = record {
    effect = no_effect;
    asked = λ _. rw (← e) (λ none there reads. absurd (not_refused q r tt t (z ∙ none)));
    is = ap (unless_hand no_effect) (sym t ∙ z) ∙ sym (hand_by no_effect true s);
  }

  pub hands_nowhere : standing c ≡ false → HandRan m l i removes m l (Err ClusterWrong)
  hands_nowhere s = record { effect = no_effect; asked = λ z. absurd (true≢false (sym z ∙ ap standing (sym e) ∙ s)); is = sym (hand_by no_effect false s) }
