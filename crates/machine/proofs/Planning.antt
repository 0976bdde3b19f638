-- The plan of a line, from the arrays that it looks at, and the run that follows it.
use Rattle.std.specs.Prelude.{Result, Ok, Err}
use Rattle.std.proofs.Common.{◌≡◌, ℕ, Bool, true, false, true≢false, List, [], sym, refl, ap, ◌∙◌, subst, arith}
use Rattle.server.specs.declared.Words.{Words}
use Rattle.server.specs.declared.Effect.{Effect}
use Rattle.memory.specs.declared.Counts.{Counts}
use Rattle.memory.specs.Layout.{counts_at}
use Rattle.views.specs.Memory.{Memory, standing}
use Rattle.refusals.specs.declared.Refusal.{Refusal}
use Rattle.refusals.specs.declared.Refusal.TheVariants.{Malformed, ClusterWrong}
use Rattle.plans.specs.declared.Plan.{Plan}
use Rattle.plans.specs.Plans.{no_effect, elect_at, timeout_at, stop_at, start_at, call_at, hand_at, lose_at, cut_at}
use Rattle.plans.specs.Arrays.{elect_in, timeout_in, stop_in, start_in, cut_in, CallPlanned}
use Rattle.parse.specs.declared.Kind.{Kind}
use Rattle.parse.specs.declared.Kind.TheVariants as K
use Rattle.parse.specs.declared.Line.{Line}
use Rattle.runs.specs.declared.Report.{Report}
use Rattle.runs.specs.Runs.{Ran, ran, refused_run, bare_report, accepted, executed, words_of, line_plan, planned_run, cluster_run, run_by, line_run, EffectOf}
use Rattle.machine.specs.Steps.{cluster_told, seen, is_planned, LinePlanned, HandRan, RanPlan, RanLine}

module _ (heads slots copies queue : List ℕ) (c : Counts) (x : Line) (p : Result Plan Refusal) where
  -- the plan of a line, by its kind
  simply : (f : Effect) (k : Kind) → x.kind ≡ k → p ≡ line_plan k (seen heads slots copies [] queue) c x f
      → ((texts : List ℕ) → EffectOf k (seen heads slots copies texts queue) c x f) → LinePlanned heads slots copies queue c x p
  simply f k e h g = record {
    effect = f;
    asked = λ texts. subst (λ k. EffectOf k (seen heads slots copies texts queue) c x f) (sym e) (g texts);
    is = h ∙ sym (ap (λ k. line_plan k (seen heads slots copies [] queue) c x f) e);
  }

  pub elect_planned : x.kind ≡ K.Elect → p ≡ elect_in heads slots c x.first → LinePlanned heads slots copies queue c x p
  unfolding line_plan elect_at
  elect_planned e h = simply no_effect K.Elect e h (λ _. tt)

  pub timeout_planned : x.kind ≡ K.Timeout → p ≡ timeout_in heads slots c x.first x.second → LinePlanned heads slots copies queue c x p
  unfolding line_plan timeout_at
  timeout_planned e h = simply no_effect K.Timeout e h (λ _. tt)

  pub stop_planned : x.kind ≡ K.Stop → p ≡ stop_in heads slots c x.first → LinePlanned heads slots copies queue c x p
  unfolding line_plan stop_at
  stop_planned e h = simply no_effect K.Stop e h (λ _. tt)

  pub start_planned : x.kind ≡ K.Start → p ≡ start_in heads slots c x.first → LinePlanned heads slots copies queue c x p
  unfolding line_plan start_at
  start_planned e h = simply no_effect K.Start e h (λ _. tt)

  pub cut_planned : x.kind ≡ K.Cut → p ≡ cut_in heads slots queue c x.first x.second → LinePlanned heads slots copies queue c x p
  unfolding line_plan cut_at
  cut_planned e h = simply no_effect K.Cut e h (λ _. tt)

  pub lose_planned : x.kind ≡ K.Lose → p ≡ lose_at c x.first → LinePlanned heads slots copies queue c x p
  unfolding line_plan
  lose_planned e h = simply no_effect K.Lose e h (λ _. tt)

  -- a call, by the five kinds that have words
  call_by : (k : Kind) → x.kind ≡ k → is_planned k ≡ true → (k ≡ K.Elect → ⊥) → (k ≡ K.Lose → ⊥) → (k ≡ K.Timeout → ⊥) → (k ≡ K.Stop → ⊥) → (k ≡ K.Cut → ⊥) → (k ≡ K.Start → ⊥)
      → CallPlanned heads slots copies c x.first (words_of k x) p → LinePlanned heads slots copies queue c x p
  unfolding line_plan call_at is_planned
  call_by K.Malformed e z a b d f g i h = absurd (true≢false (sym z))
  call_by K.Cluster e z a b d f g i h = absurd (true≢false (sym z))
  call_by K.Deliver e z a b d f g i h = absurd (true≢false (sym z))
  call_by K.Copy e z a b d f g i h = absurd (true≢false (sym z))
  call_by K.Elect e z a b d f g i h = absurd (a refl)
  call_by K.Lose e z a b d f g i h = absurd (b refl)
  call_by K.Timeout e z a b d f g i h = absurd (d refl)
  call_by K.Stop e z a b d f g i h = absurd (f refl)
  call_by K.Cut e z a b d f g i h = absurd (g refl)
  call_by K.Start e z a b d f g i h = absurd (i refl)
  call_by K.Get e z a b d f g i h = simply h.effect K.Get e h.is (λ _. h.needed)
  call_by K.Set e z a b d f g i h = simply h.effect K.Set e h.is (λ _. h.needed)
  call_by K.SetIf e z a b d f g i h = simply h.effect K.SetIf e h.is (λ _. h.needed)
  call_by K.Del e z a b d f g i h = simply h.effect K.Del e h.is (λ _. h.needed)
  call_by K.Keys e z a b d f g i h = simply h.effect K.Keys e h.is (λ _. h.needed)

  pub planned_call : (w : Words) → is_planned x.kind ≡ true → (x.kind ≡ K.Elect → ⊥) → (x.kind ≡ K.Lose → ⊥) → (x.kind ≡ K.Timeout → ⊥) → (x.kind ≡ K.Stop → ⊥) → (x.kind ≡ K.Cut → ⊥) → (x.kind ≡ K.Start → ⊥)
      → w ≡ words_of x.kind x → CallPlanned heads slots copies c x.first w p → LinePlanned heads slots copies queue c x p
  planned_call w z a b d f g i e h = call_by x.kind refl z a b d f g i (subst (λ v. CallPlanned heads slots copies c x.first v p) e h)

-- ---- a plan looks at four of the arrays, and at a fifth only for a message that is handed over

abbrev seen_in : Memory → List ℕ → Memory
seen_in m texts = seen m.heads m.slots m.copies texts m.queue

plan_sees : (k : Kind) (m : Memory) (c : Counts) (x : Line) (f : Effect) → line_plan k (seen_in m []) c x f ≡ line_plan k m c x f
unfolding line_plan elect_at timeout_at stop_at start_at call_at hand_at cut_at
plan_sees K.Malformed m c x f = refl
plan_sees K.Cluster m c x f = refl
plan_sees K.Elect m c x f = refl
plan_sees K.Get m c x f = refl
plan_sees K.Set m c x f = refl
plan_sees K.SetIf m c x f = refl
plan_sees K.Del m c x f = refl
plan_sees K.Keys m c x f = refl
plan_sees K.Deliver m c x f = refl
plan_sees K.Copy m c x f = refl
plan_sees K.Lose m c x f = refl
plan_sees K.Timeout m c x f = refl
plan_sees K.Stop m c x f = refl
plan_sees K.Cut m c x f = refl
plan_sees K.Start m c x f = refl

effect_seen : (k : Kind) (m : Memory) (c : Counts) (x : Line) (f : Effect) → EffectOf k (seen_in m m.texts) c x f → EffectOf k m c x f
unfolding call_at
effect_seen K.Malformed m c x f h = h
effect_seen K.Cluster m c x f h = h
effect_seen K.Elect m c x f h = h
effect_seen K.Get m c x f h = h
effect_seen K.Set m c x f h = h
effect_seen K.SetIf m c x f h = h
effect_seen K.Del m c x f h = h
effect_seen K.Keys m c x f h = h
effect_seen K.Deliver m c x f h = h
effect_seen K.Copy m c x f h = h
effect_seen K.Lose m c x f h = h
effect_seen K.Timeout m c x f h = h
effect_seen K.Stop m c x f h = h
effect_seen K.Cut m c x f h = h
effect_seen K.Start m c x f h = h

-- ---- the run that follows

abbrev plan_or_refuse : Memory → List ℕ → Line → Effect → Counts → Bool → Ran
plan_or_refuse m l x f c b = elim b [ true ↦ executed m l c (line_plan x.kind m c x f) | false ↦ refused_run m l ClusterWrong ]

module _ (m : Memory) (l : List ℕ) (x : Line) (c : Counts) (e : c ≡ counts_at m.counts) where
  planned_by : (f : Effect) (b : Bool) → standing c ≡ b → planned_run m l x f ≡ plan_or_refuse m l x f c b
  unfolding planned_run
  planned_by f b s = ap (λ c. plan_or_refuse m l x f c (standing c)) (sym e) ∙ ap (plan_or_refuse m l x f c) s

  planned_as : (q : Result Plan Refusal) (m' : Memory) (l' : List ℕ) (r : Result Report Refusal) → standing c ≡ true → LinePlanned m.heads m.slots m.copies m.queue c x q
      → ran m' l' r ≡ executed m l c q → RanPlan m l x m' l' r
  planned_as q m' l' r s y h =
      record {
        effect = y.effect;
        asked = λ _. rw (← e) (effect_seen x.kind m c x y.effect (y.asked m.texts));
        is = h ∙ ap (executed m l c) (y.is ∙ plan_sees x.kind m c x y.effect) ∙ sym (planned_by y.effect true s);
      }

  -- a plan that is carried out, or refused
  pub accepted_run : (q : Result Plan Refusal) (p : Plan) (m' : Memory) (l' : List ℕ) (r : Report) → standing c ≡ true → LinePlanned m.heads m.slots m.copies m.queue c x q → q ≡ Ok p
      → ran m' l' (Ok r) ≡ accepted m l c p → RanPlan m l x m' l' (Ok r)
  unfolding executed
  accepted_run q p m' l' r s y z h = planned_as q m' l' (Ok r) s y (h ∙ ap (executed m l c) (sym z))

  pub refused_plan_run : (q : Result Plan Refusal) (a : Refusal) → standing c ≡ true → LinePlanned m.heads m.slots m.copies m.queue c x q → q ≡ Err a → RanPlan m l x m l (Err a)
  unfolding executed
  refused_plan_run q a s y z = planned_as q m l (Err a) s y (ap (executed m l c) (sym z))

  pub unplanned_run : standing c ≡ false → RanPlan m l x m l (Err ClusterWrong)
  unplanned_run s =
      record {
        effect = no_effect;
        asked = λ z. absurd (true≢false (sym z ∙ ap standing (sym e) ∙ s));
        is = sym (planned_by no_effect false s);
      }

-- a kind that is none of the four others is planned
pub planned_by_default : (k : Kind) → (k ≡ K.Malformed → ⊥) → (k ≡ K.Cluster → ⊥) → (k ≡ K.Deliver → ⊥) → (k ≡ K.Copy → ⊥) → is_planned k ≡ true
unfolding is_planned
planned_by_default K.Malformed a b c d = absurd (a refl)
planned_by_default K.Cluster a b c d = absurd (b refl)
planned_by_default K.Deliver a b c d = absurd (c refl)
planned_by_default K.Copy a b c d = absurd (d refl)
planned_by_default K.Elect a b c d = refl
planned_by_default K.Get a b c d = refl
planned_by_default K.Set a b c d = refl
planned_by_default K.SetIf a b c d = refl
planned_by_default K.Del a b c d = refl
planned_by_default K.Keys a b c d = refl
planned_by_default K.Lose a b c d = refl
planned_by_default K.Timeout a b c d = refl
planned_by_default K.Stop a b c d = refl
planned_by_default K.Cut a b c d = refl
planned_by_default K.Start a b c d = refl

-- ---- lines by their kind

abbrev EffectAsked : Memory → Line → Kind → Effect → Type 0
EffectAsked m x k f = standing (counts_at m.counts) ≡ true → EffectOf k m (counts_at m.counts) x f

module _ (m : Memory) (l : List ℕ) (x : Line) where
  by_kind : (k : Kind) → x.kind ≡ k → {m' : Memory} {l' : List ℕ} {r : Result Report Refusal} (f : Effect) → EffectAsked m x k f → ran m' l' r ≡ run_by k m l x f → RanLine m l x m' l' r
  unfolding line_run
  by_kind k e f g h = record {
    effect = f;
    asked = subst (λ k. EffectAsked m x k f) (sym e) g;
    is = h ∙ sym (ap (λ k. run_by k m l x f) e);
  }

  pub malformed_run : x.kind ≡ K.Malformed → RanLine m l x m l (Err Malformed)
  unfolding run_by
  malformed_run e = by_kind K.Malformed e no_effect (λ _. tt) refl

  pub cluster_run_lem : (m' : Memory) (l' : List ℕ) (q : Result (Unit {0}) Refusal) (r : Result Report Refusal) → x.kind ≡ K.Cluster
      → ran m' l' (cluster_told q) ≡ cluster_run m l x.first x.second → r ≡ cluster_told q → RanLine m l x m' l' r
  unfolding run_by
  cluster_run_lem m' l' q r e y h = by_kind K.Cluster e no_effect (λ _. tt) (ap (ran m' l') h ∙ y)

  pub cluster_made : (m' : Memory) (l' : List ℕ) (q : Result (Unit {0}) Refusal) (u : Unit {0}) (r : Report) → x.kind ≡ K.Cluster
      → ran m' l' (cluster_told q) ≡ cluster_run m l x.first x.second → q ≡ Ok u → r ≡ bare_report → RanLine m l x m' l' (Ok r)
  unfolding cluster_told
  cluster_made m' l' q u r e y z h = cluster_run_lem m' l' q (Ok r) e y (ap (λ (r : Report). Ok r) h ∙ ap cluster_told (sym z))

  pub cluster_refused : (m' : Memory) (l' : List ℕ) (q : Result (Unit {0}) Refusal) (a : Refusal) → x.kind ≡ K.Cluster
      → ran m' l' (cluster_told q) ≡ cluster_run m l x.first x.second → q ≡ Err a → RanLine m l x m' l' (Err a)
  unfolding cluster_told
  cluster_refused m' l' q a e y z = cluster_run_lem m' l' q (Err a) e y (ap cluster_told (sym z))

  pub other_run : (m' : Memory) (l' : List ℕ) (r : Result Report Refusal) (k : Kind) → x.kind ≡ k → is_planned k ≡ true → RanPlan m l x m' l' r → RanLine m l x m' l' r
  unfolding run_by is_planned
  other_run m' l' r K.Malformed e z h = absurd (true≢false (sym z))
  other_run m' l' r K.Cluster e z h = absurd (true≢false (sym z))
  other_run m' l' r K.Elect e z h = by_kind K.Elect e h.effect (subst (λ k. EffectAsked m x k h.effect) e h.asked) h.is
  other_run m' l' r K.Get e z h = by_kind K.Get e h.effect (subst (λ k. EffectAsked m x k h.effect) e h.asked) h.is
  other_run m' l' r K.Set e z h = by_kind K.Set e h.effect (subst (λ k. EffectAsked m x k h.effect) e h.asked) h.is
  other_run m' l' r K.SetIf e z h = by_kind K.SetIf e h.effect (subst (λ k. EffectAsked m x k h.effect) e h.asked) h.is
  other_run m' l' r K.Del e z h = by_kind K.Del e h.effect (subst (λ k. EffectAsked m x k h.effect) e h.asked) h.is
  other_run m' l' r K.Keys e z h = by_kind K.Keys e h.effect (subst (λ k. EffectAsked m x k h.effect) e h.asked) h.is
  other_run m' l' r K.Deliver e z h = absurd (true≢false (sym z))
  other_run m' l' r K.Copy e z h = absurd (true≢false (sym z))
  other_run m' l' r K.Lose e z h = by_kind K.Lose e h.effect (subst (λ k. EffectAsked m x k h.effect) e h.asked) h.is
  other_run m' l' r K.Timeout e z h = by_kind K.Timeout e h.effect (subst (λ k. EffectAsked m x k h.effect) e h.asked) h.is
  other_run m' l' r K.Stop e z h = by_kind K.Stop e h.effect (subst (λ k. EffectAsked m x k h.effect) e h.asked) h.is
  other_run m' l' r K.Cut e z h = by_kind K.Cut e h.effect (subst (λ k. EffectAsked m x k h.effect) e h.asked) h.is
  other_run m' l' r K.Start e z h = by_kind K.Start e h.effect (subst (λ k. EffectAsked m x k h.effect) e h.asked) h.is

  pub planned_run_of : (m' : Memory) (l' : List ℕ) (r : Result Report Refusal) → is_planned x.kind ≡ true → RanPlan m l x m' l' r → RanLine m l x m' l' r
  planned_run_of m' l' r = other_run m' l' r x.kind refl

  -- the run of the plan that a kind makes
  abbrev run_as : Kind → Effect → Ran
  run_as k f =
      let c = counts_at m.counts in
      elim (standing c) [ true ↦ executed m l c (line_plan k m c x f) | false ↦ refused_run m l ClusterWrong ]

  -- a message that is handed over, which leaves the list or stays
  pub deliver_run : (m' : Memory) (l' : List ℕ) (r : Result Report Refusal) → x.kind ≡ K.Deliver → HandRan m l x.first true m' l' r → RanLine m l x m' l' r
  unfolding run_by planned_run line_plan
  deliver_run m' l' r e h = by_kind K.Deliver e h.effect h.asked (h.is ∙ ap (λ k. run_as k h.effect) (sym e))

  pub copy_run : (m' : Memory) (l' : List ℕ) (r : Result Report Refusal) → x.kind ≡ K.Copy → HandRan m l x.first false m' l' r → RanLine m l x m' l' r
  unfolding run_by planned_run line_plan
  copy_run m' l' r e h = by_kind K.Copy e h.effect h.asked (h.is ∙ ap (λ k. run_as k h.effect) (sym e))
