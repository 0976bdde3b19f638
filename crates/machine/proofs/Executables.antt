-- A plan that is accepted can be carried out: its server, bucket and message are there, and there are places for what it sends.
use Rattle.std.specs.Prelude.{Result, Ok, Err}
use Rattle.std.proofs.Common.{◌≡◌, ℕ, ◌<◌, ◌≤◌, Bool, true, false, leb, sym, refl, ◌∙◌, subst, true≢false, arith, leb-false}
use native.Mathlib.Nat.{min-le_left, min-le_right}
use Rattle.model.specs.Measures.{max_election}
use Rattle.server.specs.declared.Message.{Message}
use Rattle.server.specs.declared.Words.{Words}
use Rattle.server.specs.declared.Effect.{Effect}
use Rattle.server.specs.Heads.{larger_number_of}
use Rattle.server.specs.Views.{flag_in, among}
use Rattle.memory.specs.declared.Counts.{Counts}
use Rattle.refusals.specs.declared.Refusal.{Refusal}
use Rattle.refusals.specs.declared.Refusal.TheVariants.{NoPlaces}
use Rattle.refusals.specs.Refusals.{places_left, places_refusal, inside, no_receiver}
use Rattle.moves.specs.declared.Local.{Local}
use Rattle.moves.specs.declared.Move.{Move}
use Rattle.restarts.specs.Restarts.{cuttable}
use Rattle.views.specs.Memory.{Memory}
use Rattle.plans.specs.declared.Step.{Step}
use Rattle.plans.specs.declared.Plan.{Plan}
use Rattle.plans.specs.declared.Plan.TheVariants.{Loses}
use Rattle.plans.specs.Plans.{no_effect, if_places_left, move_if_places_left, take_plan, lost_step, line_step, unless, elect_plan, timeout_plan, stop_plan, start_plan, elect_at, timeout_at, stop_at, start_at, cut_plan, cut_at, bad_lengths, call_bucket, call_step, call_plan, call_at, gone, hand_plan, hand_at, lose_at}
use Rattle.plans.specs.Arrays.{Measured}
use Rattle.plans.proofs.Judging.{inside_there, in_list}
use Rattle.parse.specs.declared.Kind.{Kind}
use Rattle.parse.specs.declared.Kind.TheVariants as K
use Rattle.parse.specs.declared.Line.{Line}
use Rattle.runs.specs.Runs.{line_plan}
use Rattle.runs.specs.Carrying.{Carriable}
use Rattle.machine.specs.Steps.{Executable}

-- ---- the parts of a plan

-- the server, bucket and message of a step are there
record Placed (c : Counts) (x : Step) : Type 0 where
  server : x.server < c.servers
  bucket : x.bucket < 8
  index : x.index < 64
  there : x.removes ≡ true → x.index < c.messages

carriable : {c : Counts} {x : Step} {v : Move} → Measured c → Placed c x → places_left c x.removes v.sends ≡ true → Carriable c x v
carriable m h e = record {
  servers = m.servers;
  buckets = m.buckets;
  server = h.server;
  bucket = h.bucket;
  index = h.index;
  losable = record { messages = m.messages; there = h.there };
  room = e;
}

some_places : (z : Bool) (u : Unit {0}) → ◌≡◌ {A = Result (Unit {0}) Refusal} (elim z [ true ↦ Ok tt | false ↦ Err NoPlaces ]) (Ok u) → z ≡ true
some_places true u h = refl
some_places false u h = let y : ◌≡◌ {A = ℕ} 0 1 = cc in absurd (omega arith)

-- where 12 is not given there are places
pub places_there : (c : Counts) (removes : Bool) (kind : ℕ) (u : Unit {0}) → places_refusal c removes kind ≡ Ok u → places_left c removes kind ≡ true
unfolding places_refusal
places_there c removes kind u h = some_places (places_left c removes kind) u h

-- a plan that is refused asks for nothing
abbrev pub Allowed : Counts → Result Plan Refusal → Type 0
Allowed c (Ok p) = Executable c p
Allowed c (Err r) = Unit {0}

module _ (c : Counts) where
  -- one of two plans, by a test
  either : (t : Bool) (p q : Result Plan Refusal) → (t ≡ true → Allowed c p) → (t ≡ false → Allowed c q) → Allowed c (elim t [ true ↦ p | false ↦ q ])
  either true p q hp hq = hp refl
  either false p q hp hq = hq refl

  allowed : (u : Result (Unit {0}) Refusal) (p : Result Plan Refusal) → ((v : Unit {0}) → u ≡ Ok v → Allowed c p) → Allowed c (unless u p)
  unfolding unless
  allowed (Ok v) p h = h v refl
  allowed (Err r) p h = tt

  room_for : (x : Step) (v : Move) (p : Plan) → (places_left c x.removes v.sends ≡ true → Executable c p) → Allowed c (if_places_left c x v p)
  room_for x v p h = allowed (places_refusal c x.removes v.sends) (Ok p) (λ u e. h (places_there c x.removes v.sends u e))

  moves : (x : Step) (v : Move) (f : Effect) → Measured c → Placed c x → Allowed c (move_if_places_left c x v f)
  moves x v f m h = room_for x v _ (carriable m h)

  takes : (x : Step) (w : Words) (v : Move) (f : Effect) → Measured c → Placed c x → Allowed c (take_plan c x w v f)
  takes x w v f m h = room_for x v _ (carriable m h)

  loses : (i : ℕ) (removes : Bool) → Measured c → i < c.messages → Allowed c (Ok (Loses (lost_step c i removes)))
  loses i removes m h = record { messages = m.messages; there = λ e. h }

  -- ---- lines that name a server

  placed : (x : Step) → x.removes ≡ false → x.index ≡ 0 → Measured c → inside c x.server x.bucket ≡ true → Placed c x
  placed x k i m h =
      let n = inside_there c x.server x.bucket h in
      record { server = n.0; bucket = omega (arith, n.1, m.buckets); index = omega (arith, i); there = λ e. absurd (true≢false (sym e ∙ k)) }

  elects : (s : ℕ) (l : Local) → Measured c → inside c s 0 ≡ true → Allowed c (elect_plan c s l)
  unfolding elect_plan
  elects s l m h =
      allowed _ _
      (λ u z. either (leb max_election (larger_number_of l.head)) _ _ (λ e. tt) (λ e. moves _ _ _ m (placed (line_step c s 0) refl refl m h)))

  times_out : (s b : ℕ) (l : Local) → Measured c → inside c s b ≡ true → Allowed c (timeout_plan c s b l)
  unfolding timeout_plan
  times_out s b l m h =
      allowed _ _
      (λ u z. either (among 4 l.round.purpose) _ _ (λ e. moves _ _ _ m (placed (line_step c s b) refl refl m h)) (λ e. tt))

  stops : (s : ℕ) (l : Local) → Measured c → inside c s 0 ≡ true → Allowed c (stop_plan c s l)
  unfolding stop_plan
  stops s l m h = allowed _ _ (λ u z. moves _ _ _ m (placed (line_step c s 0) refl refl m h))

  starts : (s : ℕ) (l : Local) → Measured c → inside c s 0 ≡ true → Allowed c (start_plan c s l)
  unfolding start_plan
  starts s l m h = allowed _ _ (λ u z. moves _ _ _ m (placed (line_step c s 0) refl refl m h))

  calls : (s b : ℕ) (w : Words) (l : Local) (f : Effect) → Measured c → inside c s b ≡ true → Allowed c (call_plan c s b w l f)
  unfolding call_plan
  calls s b w l f m h = allowed _ _ (λ u z. allowed _ _ (λ v y. takes _ _ _ _ m (placed (call_step c s b) refl refl m h)))

  elects_at : (a : Memory) (s : ℕ) → Measured c → Allowed c (elect_at a c s)
  unfolding elect_at
  elects_at a s m = either (inside c s 0) _ _ (λ h. elects s _ m h) (λ h. tt)

  times_out_at : (a : Memory) (s b : ℕ) → Measured c → Allowed c (timeout_at a c s b)
  unfolding timeout_at
  times_out_at a s b m = either (inside c s b) _ _ (λ h. times_out s b _ m h) (λ h. tt)

  stops_at : (a : Memory) (s : ℕ) → Measured c → Allowed c (stop_at a c s)
  unfolding stop_at
  stops_at a s m = either (inside c s 0) _ _ (λ h. stops s _ m h) (λ h. tt)

  starts_at : (a : Memory) (s : ℕ) → Measured c → Allowed c (start_at a c s)
  unfolding start_at
  starts_at a s m = either (inside c s 0) _ _ (λ h. starts s _ m h) (λ h. tt)

  calls_at : (a : Memory) (s : ℕ) (w : Words) (f : Effect) → Measured c → Allowed c (call_at a c s w f)
  unfolding call_at
  calls_at a s w f m = either (inside c s (call_bucket c w)) _ _ (λ h. either (bad_lengths w) _ _ (λ e. tt) (λ e. calls s _ w _ f m h)) (λ h. tt)

  -- ---- messages

  present : (t u : Bool) → elim t [ true ↦ true | false ↦ u ] ≡ false → t ≡ false
  present true u h = absurd (true≢false h)
  present false u h = refl

  -- a message is handed over only to a server that is there
  pub stays : (x : Step) (l : Local) → x.server ≤ x.asked.receiver → gone c x l ≡ false → x.server < c.servers
  unfolding gone no_receiver
  stays x l s h = omega (arith, s, leb-false c.servers x.asked.receiver (present (leb c.servers x.asked.receiver) (flag_in l.head.stopped) h))

  hands : (x : Step) (y : Message) (l : Local) (f : Effect) → Measured c → x.index < c.messages → x.server ≤ x.asked.receiver → x.bucket ≤ 7 → Allowed c (hand_plan c x y l f)
  unfolding hand_plan
  hands x y l f m i s b =
      either (gone c x l) _ _
      (λ h. loses x.index x.removes m i)
      (λ h. moves _ _ _ m (record { server = stays x l s h; bucket = omega (arith, b); index = omega (arith, i, m.messages); there = λ e. i }))

  hands_at : (a : Memory) (i : ℕ) (removes : Bool) (f : Effect) → Measured c → Allowed c (hand_at a c i removes f)
  unfolding hand_at
  hands_at a i removes f m = allowed _ _ (λ u z. hands _ _ _ f m (in_list c i u z) (min-le_right 6 _) (min-le_left 7 _))

  cuts : (x : Step) (k : ℕ) (y : Message) (l : Local) → Measured c → x.index < c.messages → x.server ≤ x.asked.receiver → x.bucket ≤ 7 → Allowed c (cut_plan c x k y l)
  unfolding cut_plan
  cuts x k y l m i s b =
      either (gone c x l) _ _
      (λ h. tt)
      (λ h. either (cuttable k y l) _ _
      (λ e. moves _ _ _ m (record { server = stays x l s h; bucket = omega (arith, b); index = omega (arith, i, m.messages); there = λ e. i }))
      (λ e. tt))

  cuts_at : (a : Memory) (i k : ℕ) → Measured c → Allowed c (cut_at a c i k)
  unfolding cut_at
  cuts_at a i k m = allowed _ _ (λ u z. cuts _ k _ _ m (in_list c i u z) (min-le_right 6 _) (min-le_left 7 _))

  loses_at : (i : ℕ) → Measured c → Allowed c (lose_at c i)
  unfolding lose_at
  loses_at i m = allowed _ _ (λ u z. loses i true m (in_list c i u z))

-- ---- lines

allowed_by : (k : Kind) (m : Memory) (c : Counts) (x : Line) (f : Effect) → Measured c → Allowed c (line_plan k m c x f)
unfolding line_plan
allowed_by K.Malformed m c x f h = tt
allowed_by K.Cluster m c x f h = tt
allowed_by K.Elect m c x f h = elects_at c m x.first h
allowed_by K.Get m c x f h = calls_at c m x.first _ f h
allowed_by K.Set m c x f h = calls_at c m x.first _ f h
allowed_by K.SetIf m c x f h = calls_at c m x.first _ f h
allowed_by K.Del m c x f h = calls_at c m x.first _ f h
allowed_by K.Keys m c x f h = calls_at c m x.first _ f h
allowed_by K.Deliver m c x f h = hands_at c m x.first true f h
allowed_by K.Copy m c x f h = hands_at c m x.first false f h
allowed_by K.Lose m c x f h = loses_at c x.first h
allowed_by K.Timeout m c x f h = times_out_at c m x.first x.second h
allowed_by K.Stop m c x f h = stops_at c m x.first h
allowed_by K.Cut m c x f h = cuts_at c m x.first x.second h
allowed_by K.Start m c x f h = starts_at c m x.first h

-- the plan of any line that is accepted
pub executable : {q : Result Plan Refusal} {p : Plan} (m : Memory) (c : Counts) (x : Line) (f : Effect) → Measured c → q ≡ line_plan x.kind m c x f → q ≡ Ok p → Executable c p
executable m c x f h e z = subst (Allowed c) (sym e ∙ z) (allowed_by x.kind m c x f h)
