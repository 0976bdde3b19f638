-- Elections, timeouts, stops, starts and lost messages: the run of such a line is what the definitions make of it.
use Rattle.std.specs.Prelude.{Result, Err}
use Rattle.std.proofs.Common.{◌≡◌, ℕ, ◌<◌, ◌≤◌, Bool, true, false, not, leb, List, [], ◌∷◌, sym, refl, ap, ◌∙◌, ap₂, arith, leb-false}
use mathlib.Core.Option.{none, some}
use borrow.Author.Tests.{lt-leb}
use Rattle.entries.specs.Entries.{Entry}
use Rattle.model.specs.Measures.{max_election}
use Rattle.model.specs.Cluster as cluster
use Rattle.model.specs.Leader.{Reaction, reaction, cease, larger_number, elect}
use Rattle.model.specs.Lines as lines
use Rattle.server.specs.declared.Round.{Round}
use Rattle.server.specs.Heads.{larger_number_of}
use Rattle.server.specs.Views.{among, open_in, round_in, chosen}
use Rattle.memory.specs.Layout.{slot_of, counts_at, head_at, round_at}
use Rattle.refusals.specs.declared.Refusal.{Refusal}
use Rattle.refusals.specs.declared.Refusal.TheVariants.{NoRoundOpen, LastElection}
use Rattle.refusals.specs.Refusals.{inside}
use Rattle.moves.specs.declared.Move.{Move}
use Rattle.moves.specs.declared.Filling.TheVariants as filling
use Rattle.moves.specs.Moves.{elected_move, ceased_move, stopped_move}
use Rattle.restarts.specs.Restarts.{restarted_move}
use Rattle.moves.proofs.LineMoves.{elected_means, ceased_means, stopped_means}
use Rattle.restarts.proofs.Starting.{restarted_means}
use Rattle.views.specs.Memory.{Memory, WholeLocal, local_at, cluster_at}
use Rattle.views.proofs.Seen.{length_servers, larger_there, round_there, server_seen}
use Rattle.views.proofs.Whole.{whole_at, whole_elected_move, whole_ceased, whole_stopped, whole_restarted}
use Rattle.plans.specs.declared.Plan.{Plan}
use Rattle.plans.specs.Plans.{no_effect, line_step, move_if_places_left, elect_plan, timeout_plan, stop_plan, start_plan, elect_at, timeout_at, stop_at, start_at, lose_at}
use Rattle.runs.specs.Runs.{executed}
use Rattle.runs.specs.Meaning.{state_in, result_of}
use Rattle.runs.proofs.Filling.{apart}
use Rattle.runs.proofs.Accepting.{Ready, Possible, reaction_of}
use Rattle.runs.proofs.Standing.{measured}
use Rattle.runs.proofs.Conditions.{
  counts_in,
  judged,
  planned,
  inside_only,
  ready_perform,
  condition_judged,
  server_stands,
  place_judged,
  server_judged,
  start_judged,
  message_judged,
  moved_run,
  lost_run_lem,
}

-- ---- 3, 10 and 11 as the memory shows them

-- an open round is one of the four purposes
open_seen : (n : ℕ) (r : Round) (u : List Entry) → lines.present (round_in n r u) ≡ among 4 r.purpose
unfolding lines.present round_in
open_seen n r u =
    elim (among 4 r.purpose) as (λ z. lines.present {A = cluster.Round} (elim z [ true ↦ some (open_in n r u) | false ↦ none ]) ≡ z) [ true ↦ refl | false ↦ refl ]

either_none : (x : Bool) → x ≡ lines.either x false
unfolding lines.either
either_none true = refl
either_none false = refl

module _ (m : Memory) where
  last_number_seen : (s : ℕ) → s < (counts_in m).servers → lines.last_number max_election (cluster_at m) s ≡ leb max_election (larger_number_of (head_at m.heads s))
  unfolding lines.last_number
  last_number_seen s h =
      ap (leb max_election) (ap (λ x. larger_number x.stored) (server_stands m s h) ∙ larger_there (counts_in m).servers (counts_in m).buckets m s)

  round_seen : (s b : ℕ) → s < (counts_in m).servers → b < (counts_in m).buckets
      → lines.present (cluster.round_at (lines.server_at (cluster_at m) s).volatile b) ≡ among 4 (round_at m.slots (slot_of s b)).purpose
  round_seen s b h k =
      ap (λ x. lines.present (cluster.round_at x.volatile b)) (server_stands m s h)
      ∙ (ap lines.present (round_there (counts_in m).servers (counts_in m).buckets m s b k) ∙ open_seen _ _ _)

module _ (m : Memory) (l : List ℕ) (t : lines.Tally) (w : lines.Work) (p : Result Plan Refusal) where
  -- 3, for a line that names no bucket
  server_named : (s : ℕ) (rest : List lines.Condition) → 1 ≤ (counts_in m).buckets
      → (s < (counts_in m).servers → 0 < (counts_in m).buckets → judged (state_in m t) rest w ≡ planned m l t (counts_in m) p)
      → judged (state_in m t) (lines.when 3 (lines.no_server (cluster_at m) s) ∷ rest) w ≡ planned m l t (counts_in m) (inside_only (inside (counts_in m) s 0) p)
  server_named s rest buckets h =
      ap (λ z. judged (state_in m t) (lines.when 3 z ∷ rest) w) (either_none (lines.no_server (cluster_at m) s))
      ∙ place_judged m l t rest w p s 0 false (sym (lt-leb (counts_in m).buckets 0 buckets)) h

  -- 10
  open_judged : (z : Bool) → judged (state_in m t) [] w ≡ planned m l t (counts_in m) p
      → judged (state_in m t) (lines.when 10 (not z) ∷ []) w ≡ planned m l t (counts_in m) (elim z [ true ↦ p | false ↦ Err NoRoundOpen ])
  open_judged true h = condition_judged m l t (counts_in m) NoRoundOpen false [] w p (λ e. h)
  open_judged false h = condition_judged m l t (counts_in m) NoRoundOpen true [] w p (λ e. h)

-- ---- the lines that name a server

module _ (m : Memory) (l : List ℕ) (t : lines.Tally) (ready : Ready m l t) where
  -- a step of server s at bucket b, by a move that stands for reaction r and makes no table
  line_moves : (s b : ℕ) (v : Move) (r : Reaction) → s < (counts_in m).servers → b < (counts_in m).buckets → WholeLocal v.local → v.fills ≡ filling.Stays
      → r ≡ reaction_of m (counts_in m) (line_step (counts_in m) s b) v no_effect
      → judged (state_in m t) [] (lines.by_line (cluster_at m) s (counts_in m).calls r)
      ≡ planned m l t (counts_in m) (move_if_places_left (counts_in m) (line_step (counts_in m) s b) v no_effect)
  unfolding lines.first_of
  line_moves s b v r server bucket whole fills means =
      let possible : Possible m (counts_in m) (line_step (counts_in m) s b) v no_effect =
      record {
        counts = refl;
        server = server;
        bucket = bucket;
        there = λ e. let z : ◌≡◌ {A = ℕ} 0 1 = cc in absurd (omega arith);
        whole = whole;
        form = λ e. absurd (apart (sym fills ∙ e));
      } in
      ap (λ x. lines.accept_line (state_in m t) (lines.by_line (cluster_at m) s (counts_in m).calls x)) means
      ∙ moved_run m l t (counts_in m) (line_step (counts_in m) s b) v no_effect ready possible

  elect_moves : (s : ℕ) → s < (counts_in m).servers → 0 < (counts_in m).buckets → larger_number_of (head_at m.heads s) < max_election
      → judged (state_in m t) [] (lines.work (cluster_at m) (lines.elect s))
      ≡ planned m l t (counts_in m) (move_if_places_left (counts_in m) (line_step (counts_in m) s 0) (elected_move (counts_in m).servers s (local_at m s (slot_of s 0))) no_effect)
  unfolding lines.work elected_move
  elect_moves s h k low =
      let n = (counts_in m).servers in
      line_moves s 0 _ _ h k (whole_elected_move n s _ (whole_at m s (slot_of s 0))) refl
      (ap₂ (λ i x. elect i s x) (length_servers n (counts_in m).buckets m) (server_stands m s h)
      ∙ elected_means n s 0 _ _ _ _ _ _ _ (server_seen n (counts_in m).buckets m s 0 k) (omega arith))

  pub elect_runs : (s : ℕ) → lines.perform (state_in m t) (lines.elect s) ≡ result_of t (executed m l (counts_at m.counts) (elect_at m (counts_at m.counts) s))
  unfolding lines.conditions_up_to elect_at elect_plan
  elect_runs s =
      ready_perform ready (lines.elect s)
      ∙ server_named m l t _ _ s _ (measured ready).some_buckets (λ h k. server_judged m l t _ _ _ s h (λ free.
      rw (last_number_seen m s h) (condition_judged m l t (counts_in m) LastElection _ [] _ _ (λ e. elect_moves s h k (leb-false _ _ e)))))

  timeout_moves : (s b : ℕ) → s < (counts_in m).servers → b < (counts_in m).buckets
      → judged (state_in m t) [] (lines.work (cluster_at m) (lines.timeout s b))
      ≡ planned m l t (counts_in m) (move_if_places_left (counts_in m) (line_step (counts_in m) s b) (ceased_move (local_at m s (slot_of s b))) no_effect)
  unfolding lines.work
  timeout_moves s b h k =
      let n = (counts_in m).servers in
      line_moves s b _ _ h k (whole_ceased _ (whole_at m s (slot_of s b))) refl
      (ap cease (server_stands m s h) ∙ ceased_means n s b _ _ _ _ _ _ _ (server_seen n (counts_in m).buckets m s b k))

  pub timeout_runs : (s b : ℕ) → lines.perform (state_in m t) (lines.timeout s b) ≡ result_of t (executed m l (counts_at m.counts) (timeout_at m (counts_at m.counts) s b))
  unfolding lines.conditions_up_to lines.no_bucket timeout_at timeout_plan
  timeout_runs s b =
      ready_perform ready (lines.timeout s b)
      ∙ place_judged m l t _ _ _ s b _ refl (λ h k. server_judged m l t _ _ _ s h (λ free.
      rw (round_seen m s b h k) (open_judged m l t _ _ (among 4 (round_at m.slots (slot_of s b)).purpose) (timeout_moves s b h k))))

  stop_moves : (s : ℕ) → s < (counts_in m).servers → 0 < (counts_in m).buckets
      → judged (state_in m t) [] (lines.work (cluster_at m) (lines.stop s))
      ≡ planned m l t (counts_in m) (move_if_places_left (counts_in m) (line_step (counts_in m) s 0) (stopped_move (local_at m s (slot_of s 0))) no_effect)
  unfolding lines.work
  stop_moves s h k =
      let n = (counts_in m).servers in
      line_moves s 0 _ _ h k (whole_stopped _ (whole_at m s (slot_of s 0))) refl
      (ap (λ x. reaction (lines.halted x) [] []) (server_stands m s h) ∙ stopped_means n s 0 _ _ _ _ _ _ _ (server_seen n (counts_in m).buckets m s 0 k))

  pub stop_runs : (s : ℕ) → lines.perform (state_in m t) (lines.stop s) ≡ result_of t (executed m l (counts_at m.counts) (stop_at m (counts_at m.counts) s))
  unfolding lines.conditions_up_to stop_at stop_plan
  stop_runs s =
      ready_perform ready (lines.stop s)
      ∙ server_named m l t _ _ s _ (measured ready).some_buckets (λ h k. server_judged m l t [] _ _ s h (λ free. stop_moves s h k))

  start_moves : (s : ℕ) → s < (counts_in m).servers → 0 < (counts_in m).buckets
      → judged (state_in m t) [] (lines.work (cluster_at m) (lines.start s))
      ≡ planned m l t (counts_in m) (move_if_places_left (counts_in m) (line_step (counts_in m) s 0) (restarted_move (local_at m s (slot_of s 0))) no_effect)
  unfolding lines.work restarted_move
  start_moves s h k =
      let n = (counts_in m).servers in
      line_moves s 0 _ _ h k (whole_restarted _ (whole_at m s (slot_of s 0))) refl
      (ap (λ x. reaction (lines.restarted x) [] []) (server_stands m s h) ∙ restarted_means n s 0 _ _ _ _ _ _ _ (server_seen n (counts_in m).buckets m s 0 k))

  pub start_runs : (s : ℕ) → lines.perform (state_in m t) (lines.start s) ≡ result_of t (executed m l (counts_at m.counts) (start_at m (counts_at m.counts) s))
  unfolding lines.conditions_up_to start_at start_plan
  start_runs s =
      ready_perform ready (lines.start s)
      ∙ server_named m l t _ _ s _ (measured ready).some_buckets (λ h k. start_judged m l t [] _ _ s h (start_moves s h k))

-- ---- a message that is lost

module _ (m : Memory) (l : List ℕ) (t : lines.Tally) (ready : Ready m l t) where
  pub lose_runs : (i : ℕ) → lines.perform (state_in m t) (lines.lose i) ≡ result_of t (executed m l (counts_at m.counts) (lose_at (counts_at m.counts) i))
  unfolding lines.conditions_up_to lines.work lines.first_of lose_at chosen
  lose_runs i =
      ready_perform ready (lines.lose i)
      ∙ message_judged m l t [] _ _ ready i (λ taken h. lost_run_lem m l t (counts_in m) i true ready refl (λ e. h))
