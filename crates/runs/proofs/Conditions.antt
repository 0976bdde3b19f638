-- How plans answer the conditions of RULES, Refusals 3, one condition after the other, and what plans that are accepted come to.
use Rattle.std.specs.Prelude.{Result, Ok, Err}
use Rattle.std.proofs.Common.{◌≡◌, ℕ, ◌<◌, Bool, true, false, not, leb, List, ◌∷◌, refl, ap, ◌∙◌, leb-false}
use mathlib.Core.Option.{none, some}
use Rattle.model.specs.Measures.{max_accepted}
use Rattle.model.specs.Lines as lines
use Rattle.limits.proofs.Always.{either_false}
use Rattle.server.specs.declared.Head.{Head}
use Rattle.server.specs.declared.Effect.{Effect}
use Rattle.server.specs.Views.{flag_in, chosen}
use Rattle.memory.specs.declared.Counts.{Counts}
use Rattle.memory.specs.Layout.{counts_at, head_at}
use Rattle.refusals.specs.declared.Refusal.{Refusal}
use Rattle.refusals.specs.declared.Refusal.TheVariants.{NotThere, LinesSpent, ServerStopped, NoSuchMessage, NoPlaces, BadCutOrStart}
use Rattle.refusals.specs.Refusals.{number, refused_where, places_left, places_refusal, inside, server_refusal, message_refusal, start_refusal}
use Rattle.moves.specs.declared.Move.{Move}
use Rattle.views.specs.Memory.{Memory, server_at, cluster_at}
use Rattle.views.specs.Queue.{flight}
use Rattle.views.proofs.Seen.{length_servers, server_there, stopped_there}
use Rattle.views.proofs.Queue.{length_flight}
use Rattle.plans.specs.declared.Step.{Step}
use Rattle.plans.specs.declared.Plan.{Plan}
use Rattle.plans.specs.declared.Plan.TheVariants.{Loses, Moves}
use Rattle.plans.specs.Plans.{carried, move_if_places_left, lost_step, if_places_left, unless}
use Rattle.runs.specs.Runs.{accepted, executed}
use Rattle.runs.specs.Meaning.{state_in, result_by, result_of}
use Rattle.runs.proofs.Accepting.{Ready, Possible, work_of, reaction_of, kept_messages}
use Rattle.runs.proofs.Standing.{standing_cluster, measured}
use Rattle.runs.proofs.Carried.{carries_out, lacks_room}
use Rattle.runs.proofs.Lost.{loses_message}

abbrev pub counts_in : Memory → Counts
counts_in m = counts_at m.counts

-- what a line comes to by the definitions: refused with the first condition that applies, or its work
abbrev pub judged : lines.State → List lines.Condition → lines.Work → lines.LineResult
judged s conditions w = elim (lines.first_of conditions) [ some r ↦ lines.refuse s r | none ↦ lines.accept_line s w ]

-- what a plan comes to
abbrev pub planned : Memory → List ℕ → lines.Tally → Counts → Result Plan Refusal → lines.LineResult
planned m l t c p = result_of t (executed m l c p)

-- a plan that is refused where x holds; one that is refused with 3 unless x holds
abbrev pub refusing : Refusal → Bool → Result Plan Refusal → Result Plan Refusal
refusing r x p = elim x [ true ↦ Err r | false ↦ p ]

abbrev pub inside_only : Bool → Result Plan Refusal → Result Plan Refusal
inside_only x p = elim x [ true ↦ p | false ↦ Err NotThere ]

-- ---- the cluster that stands

pub ready_perform : {m : Memory} {l : List ℕ} {t : lines.Tally} → Ready m l t → (x : lines.Line)
    → lines.perform (state_in m t) x ≡ judged (state_in m t) (lines.conditions (cluster_at m) x) (lines.work (cluster_at m) x)
unfolding lines.perform_up_to lines.in_cluster_up_to
ready_perform {m} {l} {t} ready x =
    let s = state_in m t in
    ap (λ o. elim o [ none ↦ lines.create_cluster s x | some c ↦ lines.in_cluster s c x ]) (standing_cluster m ready.standing)

-- ---- one condition

module _ (m : Memory) (l : List ℕ) (t : lines.Tally) (c : Counts) where
  refused_run_lem : (r : Refusal) → lines.refuse (state_in m t) (number r) ≡ planned m l t c (Err r)
  unfolding executed result_by
  refused_run_lem r = refl

  -- a condition that applies refuses, else the others decide
  pub condition_judged : (r : Refusal) (x : Bool) (rest : List lines.Condition) (w : lines.Work) (p : Result Plan Refusal)
      → (x ≡ false → judged (state_in m t) rest w ≡ planned m l t c p)
      → judged (state_in m t) (lines.when (number r) x ∷ rest) w ≡ planned m l t c (refusing r x p)
  unfolding lines.first_of
  condition_judged r true rest w p h = refused_run_lem r
  condition_judged r false rest w p h = h refl

  -- 12: a plan is carried out where places are left, else refused
  pub places_judged : (x : Step) (v : Move) (p : Plan) (y : lines.LineResult)
      → (places_left c x.removes v.sends ≡ true → y ≡ planned m l t c (Ok p))
      → (places_left c x.removes v.sends ≡ false → y ≡ lines.refuse (state_in m t) 12)
      → y ≡ planned m l t c (if_places_left c x v p)
  unfolding unless places_refusal
  places_judged x v p y h k = go _ refl
    where
      go : (z : Bool) → places_left c x.removes v.sends ≡ z → y ≡ planned m l t c (if_places_left c x v p)
      go true e = rw (places_refusal, e) (h e)
      go false e = rw (places_refusal, e) (k e ∙ refused_run_lem NoPlaces)

-- ---- plans as conditions: 5 and 6, 5 and 18, 5 and 7, 3

-- a test that refuses is a condition
pub unless_where : (x : Bool) (r : Refusal) (p : Result Plan Refusal) → unless (refused_where x r) p ≡ refusing r x p
unfolding unless
unless_where true r p = refl
unless_where false r p = refl

-- 5 before another test
unless_spent : (z : Bool) (u : Result (Unit {0}) Refusal) (p : Result Plan Refusal) → unless (elim z [ true ↦ Err LinesSpent | false ↦ u ]) p ≡ refusing LinesSpent z (unless u p)
unfolding unless
unless_spent true u p = refl
unless_spent false u p = refl

unless_server : (c : Counts) (h : Head) (p : Result Plan Refusal)
    → unless (server_refusal c h) p ≡ refusing LinesSpent (leb max_accepted c.lines) (refusing ServerStopped (flag_in h.stopped) p)
unfolding server_refusal
unless_server c h p =
    unless_spent (leb max_accepted c.lines) _ p ∙ ap (refusing LinesSpent (leb max_accepted c.lines)) (unless_where (flag_in h.stopped) ServerStopped p)

unless_started : (z : Bool) (p : Result Plan Refusal) → unless (elim z [ true ↦ Ok tt | false ↦ Err BadCutOrStart ]) p ≡ refusing BadCutOrStart (not z) p
unfolding unless
unless_started true p = refl
unless_started false p = refl

unless_start : (c : Counts) (h : Head) (p : Result Plan Refusal)
    → unless (start_refusal c h) p ≡ refusing LinesSpent (leb max_accepted c.lines) (refusing BadCutOrStart (not (flag_in h.stopped)) p)
unfolding start_refusal
unless_start c h p =
    unless_spent (leb max_accepted c.lines) _ p ∙ ap (refusing LinesSpent (leb max_accepted c.lines)) (unless_started (flag_in h.stopped) p)

unless_message : (c : Counts) (i : ℕ) (p : Result Plan Refusal)
    → unless (message_refusal c i) p ≡ refusing LinesSpent (leb max_accepted c.lines) (refusing NoSuchMessage (leb c.messages i) p)
unfolding message_refusal
unless_message c i p =
    unless_spent (leb max_accepted c.lines) _ p ∙ ap (refusing LinesSpent (leb max_accepted c.lines)) (unless_where (leb c.messages i) NoSuchMessage p)

outside_by : (x y : Bool) (p : Result Plan Refusal)
    → inside_only (elim x [ true ↦ false | false ↦ elim y [ true ↦ false | false ↦ true ] ]) p ≡ refusing NotThere (lines.either x y) p
unfolding lines.either
outside_by true y p = refl
outside_by false true p = refl
outside_by false false p = refl

outside_refused : (c : Counts) (s b : ℕ) (p : Result Plan Refusal)
    → inside_only (inside c s b) p ≡ refusing NotThere (lines.either (leb c.servers s) (leb c.buckets b)) p
unfolding inside
outside_refused c s b p = outside_by (leb c.servers s) (leb c.buckets b) p

-- ---- the conditions as the memory shows them

module _ (m : Memory) where
  no_server_seen : (s : ℕ) → lines.no_server (cluster_at m) s ≡ leb (counts_in m).servers s
  unfolding lines.no_server
  no_server_seen s = rw (length_servers (counts_in m).servers (counts_in m).buckets m)

  pub server_stands : (s : ℕ) → s < (counts_in m).servers → lines.server_at (cluster_at m) s ≡ server_at (counts_in m).servers (counts_in m).buckets m s
  server_stands s h = server_there (counts_in m).servers (counts_in m).buckets m s _ h

  pub stopped_seen : (s : ℕ) → s < (counts_in m).servers → lines.stopped_at (cluster_at m) s ≡ flag_in (head_at m.heads s).stopped
  stopped_seen s h = ap (λ x. x.stopped) (server_stands s h) ∙ stopped_there (counts_in m).servers (counts_in m).buckets m s

  no_message_seen : (l : List ℕ) (t : lines.Tally) → Ready m l t → (i : ℕ) → lines.no_message (cluster_at m) i ≡ leb (counts_in m).messages i
  unfolding lines.no_message
  no_message_seen l t ready i =
      rw (length_flight (flight m.queue m.payloads (counts_in m).messages)
      (record { queue = ready.sized.queue; order = ready.ordered; payloads = ready.sized.payloads; count = (measured ready).messages }))

module _ (m : Memory) (l : List ℕ) (t : lines.Tally) (rest : List lines.Condition) (w : lines.Work) (p : Result Plan Refusal) where
  -- 3, where z is that there is no bucket b
  pub place_judged : (s b : ℕ) (z : Bool) → z ≡ leb (counts_in m).buckets b
      → (s < (counts_in m).servers → b < (counts_in m).buckets → judged (state_in m t) rest w ≡ planned m l t (counts_in m) p)
      → judged (state_in m t) (lines.when 3 (lines.either (lines.no_server (cluster_at m) s) z) ∷ rest) w
      ≡ planned m l t (counts_in m) (inside_only (inside (counts_in m) s b) p)
  place_judged s b z e h =
      rw (no_server_seen m s, e, outside_refused (counts_in m) s b p)
      (condition_judged m l t (counts_in m) NotThere _ rest w p (λ e. let (x, y) = either_false _ _ e in h (leb-false _ _ x) (leb-false _ _ y)))

  -- 5 and 6
  pub server_judged : (s : ℕ) → s < (counts_in m).servers
      → (server_refusal (counts_in m) (head_at m.heads s) ≡ Ok tt → judged (state_in m t) rest w ≡ planned m l t (counts_in m) p)
      → judged (state_in m t) (lines.when 5 (lines.limit_reached (cluster_at m)) ∷ lines.when 6 (lines.stopped_at (cluster_at m) s) ∷ rest) w
      ≡ planned m l t (counts_in m) (unless (server_refusal (counts_in m) (head_at m.heads s)) p)
  unfolding lines.limit_reached
  server_judged s h e =
      rw (stopped_seen m s h, unless_server)
      (condition_judged m l t (counts_in m) LinesSpent (leb max_accepted (counts_in m).lines) _ w _
      (λ a. condition_judged m l t (counts_in m) ServerStopped (flag_in (head_at m.heads s).stopped) rest w p
      (λ b. e (unfold server_refusal in rw (server_refusal, a, b)))))

  -- 5 and 18
  pub start_judged : (s : ℕ) → s < (counts_in m).servers
      → judged (state_in m t) rest w ≡ planned m l t (counts_in m) p
      → judged (state_in m t) (lines.when 5 (lines.limit_reached (cluster_at m)) ∷ lines.when 18 (not (lines.stopped_at (cluster_at m) s)) ∷ rest) w
      ≡ planned m l t (counts_in m) (unless (start_refusal (counts_in m) (head_at m.heads s)) p)
  unfolding lines.limit_reached
  start_judged s h e =
      rw (stopped_seen m s h, unless_start)
      (condition_judged m l t (counts_in m) LinesSpent (leb max_accepted (counts_in m).lines) _ w _
      (λ a. condition_judged m l t (counts_in m) BadCutOrStart (not (flag_in (head_at m.heads s).stopped)) rest w p (λ b. e)))

  -- 5 and 7
  pub message_judged : Ready m l t → (i : ℕ)
      → (message_refusal (counts_in m) i ≡ Ok tt → i < (counts_in m).messages → judged (state_in m t) rest w ≡ planned m l t (counts_in m) p)
      → judged (state_in m t) (lines.when 5 (lines.limit_reached (cluster_at m)) ∷ lines.when 7 (lines.no_message (cluster_at m) i) ∷ rest) w
      ≡ planned m l t (counts_in m) (unless (message_refusal (counts_in m) i) p)
  unfolding lines.limit_reached
  message_judged ready i h =
      rw (no_message_seen m l t ready i, unless_message)
      (condition_judged m l t (counts_in m) LinesSpent (leb max_accepted (counts_in m).lines) _ w _
      (λ a. condition_judged m l t (counts_in m) NoSuchMessage (leb (counts_in m).messages i) rest w p
      (λ b. h (unfold message_refusal in rw (message_refusal, a, b)) (leb-false _ _ b))))

-- ---- plans that are accepted

-- a move, refused where places lack
pub moved_run : (m : Memory) (l : List ℕ) (t : lines.Tally) (c : Counts) (x : Step) (v : Move) (f : Effect) → Ready m l t → Possible m c x v f
    → lines.accept_line (state_in m t) (work_of m x (reaction_of m c x v f)) ≡ planned m l t c (move_if_places_left c x v f)
unfolding executed accepted
moved_run m l t c x v f ready possible =
    places_judged m l t c x v (Moves (carried x v f)) _ (carries_out m l t c x v f ready possible) (lacks_room m l t c x v f ready possible)

-- a message that is lost
pub lost_run_lem : (m : Memory) (l : List ℕ) (t : lines.Tally) (c : Counts) (i : ℕ) (removes : Bool) → Ready m l t → c ≡ counts_at m.counts
    → (removes ≡ true → i < c.messages)
    → lines.accept_line (state_in m t) (lines.lost_message (cluster_at m) (kept_messages removes i (cluster_at m).messages) (chosen removes 0 1))
    ≡ planned m l t c (Ok (Loses (lost_step c i removes)))
unfolding executed accepted
lost_run_lem m l t c i removes ready same there = loses_message m l t c (lost_step c i removes) ready same refl there
