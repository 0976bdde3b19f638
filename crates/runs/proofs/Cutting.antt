-- `cut`: the run of a message cut short is what the definitions make of the line.
use Rattle.std.specs.Prelude.{Result, Ok, Err}
use Rattle.std.proofs.Common.{◌≡◌, ℕ, ◌<◌, min, Bool, true, false, not, ltb, leb, List, [], ◌∷◌, length, sym, refl, ap, ◌∙◌, arith, le-ltb, lt-ltb, leb-false, leb-true}
use borrow.Author.Tests.{lt-leb}
use Rattle.entries.specs.Decoded.{table_in, value_bytes}
use Rattle.model.specs.Cluster as cluster
use Rattle.model.specs.Stores.{stores_of}
use Rattle.model.specs.Leader.{Reaction, reaction}
use Rattle.model.specs.Lines as lines
use Rattle.server.specs.declared.Message.{Message}
use Rattle.server.specs.Views.{flag_in, chosen, is_broadcast}
use Rattle.memory.specs.declared.Counts.{Counts}
use Rattle.memory.specs.Layout.{slot_of, counts_at, head_at, place_at, message_at}
use Rattle.refusals.specs.declared.Refusal.{Refusal}
use Rattle.refusals.specs.declared.Refusal.TheVariants.{BadCutOrStart}
use Rattle.refusals.specs.Refusals.{message_refusal, no_receiver}
use Rattle.moves.specs.declared.Local.{Local}
use Rattle.moves.specs.declared.Move.{Move}
use Rattle.restarts.specs.Restarts.{stores_vote, stores_bucket, stores_made, cuttable, cut_move}
use Rattle.moves.specs.Reactions.{asked_in}
use Rattle.restarts.proofs.Cutting.{broadcast_seen, count_seen, cut_means}
use Rattle.views.specs.Memory.{Memory, call_words_at, server_at, cluster_at}
use Rattle.views.proofs.Contents.{tables_at}
use Rattle.views.proofs.Seen.{server_seen}
use Rattle.views.proofs.Whole.{whole_at, whole_cut}
use Rattle.plans.specs.declared.Step.{Step}
use Rattle.plans.specs.declared.Plan.{Plan}
use Rattle.plans.specs.Plans.{no_effect, move_if_places_left, gone, receiver_at, cut_step, cut_plan, cut_at}
use Rattle.runs.specs.Runs.{executed}
use Rattle.runs.specs.Meaning.{state_in, result_of}
use Rattle.runs.proofs.Filling.{apart}
use Rattle.runs.proofs.Accepting.{Ready, Possible, work_of, reaction_of}
use Rattle.runs.proofs.Standing.{measured}
use Rattle.runs.proofs.Conditions.{judged, planned, refusing, ready_perform, condition_judged, message_judged, moved_run}
use Rattle.runs.proofs.Handing.{message, message_there, message_within, mine, receiver_there, receiver_stopped}

module _ (m : Memory) (l : List ℕ) (t : lines.Tally) (ready : Ready m l t) (i k : ℕ) where
  abbrev counts : Counts
  counts = counts_at m.counts

  abbrev asked : Message
  asked = message_at m.queue i

  -- the message's server and bucket, as the plan names them
  abbrev target : ℕ
  target = min 6 asked.receiver

  abbrev part : ℕ
  part = min 7 asked.bucket

  abbrev step : Step
  step = cut_step counts i asked

  abbrev here_local : Local
  here_local = receiver_at m i

  abbrev move : Move
  move = cut_move k asked here_local

  abbrev plan : Result Plan Refusal
  plan = cut_plan counts step k asked here_local

  abbrev stopped : Bool
  stopped = flag_in (head_at m.heads target).stopped

  module _ (here : i < counts.messages) where
    to : target ≡ asked.receiver
    to = omega (arith, (message_within ready i here).receiver, (measured ready).servers)

    on : part ≡ asked.bucket
    on = omega (arith, (message_within ready i here).bucket, (measured ready).buckets)

    among_servers : leb counts.servers asked.receiver ≡ false
    among_servers = lt-leb counts.servers asked.receiver (message_within ready i here).receiver

    ours : part < counts.buckets
    ours = omega (arith, (message_within ready i here).bucket, on)

    abbrev server : cluster.Server
    server = server_at counts.servers counts.buckets m target

    there : lines.server_at (cluster_at m) asked.receiver ≡ server
    there = receiver_there ready i here true target to

    -- ---- 18

    abbrev bad : Bool
    bad = elim stopped [ true ↦ true | false ↦ elim (cuttable k asked here_local) [ true ↦ false | false ↦ true ] ]

    abbrev bad_by : Bool → Bool → Bool → Bool
    bad_by a z y = lines.either (not a) (lines.either z y)

    stores_counted : is_broadcast asked.kind ≡ true → length (stores_of (message ready i here) server.stored) ≡ stores_made (stores_vote asked here_local.head) (stores_bucket asked here_local)
    stores_counted e = count_seen counts.servers part asked server here_local (tables_at m (slot_of target part) (place_at m.queue i) (table_in no_effect.table)) (call_words_at m (slot_of target part)) (server_seen counts.servers counts.buckets m target part ours) on e

    counted : (made : ℕ) → ltb made k ≡ elim (leb k made) [ true ↦ false | false ↦ true ]
    counted made = go (leb k made) refl
      where
        go : (z : Bool) → leb k made ≡ z → ltb made k ≡ elim z [ true ↦ false | false ↦ true ]
        go true e = le-ltb made k (leb-true _ _ e)
        go false e = lt-ltb made k (leb-false _ _ e)

    by_kind : (a : Bool) → is_broadcast asked.kind ≡ a → (z : Bool)
        → bad_by a z (ltb (length (stores_of (message ready i here) server.stored)) k)
        ≡ elim z [ true ↦ true | false ↦ elim (elim a as (λ _. Bool) [ false ↦ false | true ↦ leb k (stores_made (stores_vote asked here_local.head) (stores_bucket asked here_local)) ]) [ true ↦ false | false ↦ true ] ]
    unfolding lines.either
    by_kind true e true = refl
    by_kind true e false = ap (λ made. ltb made k) (stores_counted e) ∙ counted _
    by_kind false e true = refl
    by_kind false e false = refl

    bad_seen : lines.bad_cut (cluster_at m) (message ready i here) k ≡ bad
    unfolding lines.bad_cut cuttable
    bad_seen =
        let v = tables_at m (slot_of target part) (place_at m.queue i) (table_in no_effect.table) in
        let kind = broadcast_seen counts.servers part asked server here_local v (call_words_at m (slot_of target part)) (server_seen counts.servers counts.buckets m target part ours) on in
        ap (λ a. bad_by a (lines.stopped_at (cluster_at m) asked.receiver) (ltb (length (stores_of (message ready i here) (lines.server_at (cluster_at m) asked.receiver).stored)) k)) kind
        ∙ (ap (λ z. bad_by (is_broadcast asked.kind) z (ltb (length (stores_of (message ready i here) (lines.server_at (cluster_at m) asked.receiver).stored)) k)) (receiver_stopped ready i here true target to)
        ∙ (ap (λ s. bad_by (is_broadcast asked.kind) stopped (ltb (length (stores_of (message ready i here) s.stored)) k)) there
        ∙ by_kind (is_broadcast asked.kind) refl stopped))

    gone_is : gone counts step here_local ≡ stopped
    unfolding gone no_receiver
    gone_is = rw (gone, no_receiver, among_servers) refl

    plan_is : plan ≡ refusing BadCutOrStart bad (move_if_places_left counts step move no_effect)
    unfolding cut_plan
    plan_is =
        ap (λ z. elim z as (λ _. Result Plan Refusal) [ true ↦ Err BadCutOrStart | false ↦ elim (cuttable k asked here_local) [ true ↦ move_if_places_left counts step move no_effect | false ↦ Err BadCutOrStart ] ]) gone_is
        ∙ go stopped (cuttable k asked here_local)
      where
        go : (z y : Bool)
            → ◌≡◌ {A = Result Plan Refusal} (elim z [ true ↦ Err BadCutOrStart | false ↦ elim y [ true ↦ move_if_places_left counts step move no_effect | false ↦ Err BadCutOrStart ] ])
            (refusing BadCutOrStart (elim z [ true ↦ true | false ↦ elim y [ true ↦ false | false ↦ true ] ]) (move_if_places_left counts step move no_effect))
        go true y = refl
        go false true = refl
        go false false = refl

    -- ---- the cut

    broadcast_then : bad ≡ false → is_broadcast asked.kind ≡ true
    unfolding cuttable
    broadcast_then = go stopped (is_broadcast asked.kind)
      where
        go : (z a : Bool)
            → (elim z as (λ _. Bool) [ true ↦ true | false ↦ elim (elim a as (λ _. Bool) [ false ↦ false | true ↦ leb k (stores_made (stores_vote asked here_local.head) (stores_bucket asked here_local)) ]) [ true ↦ false | false ↦ true ] ]) ≡ false
            → a ≡ true
        go true a e = let y : ◌≡◌ {A = ℕ} 0 1 = cc in absurd (omega arith)
        go false false e = let y : ◌≡◌ {A = ℕ} 0 1 = cc in absurd (omega arith)
        go false true e = refl

    cut_there : is_broadcast asked.kind ≡ true → reaction (lines.cut_server k (message ready i here) server) [] [] ≡ reaction_of m counts step move no_effect
    cut_there e =
        cut_means counts.servers part asked server here_local (tables_at m (slot_of target part) (place_at m.queue i) (table_in no_effect.table)) (call_words_at m (slot_of target part)) (server_seen counts.servers counts.buckets m target part ours) on
        target k (asked_in asked) (value_bytes no_effect.value) (table_in no_effect.table) e

    work_is : is_broadcast asked.kind ≡ true → lines.cutting (cluster_at m) (message ready i here) (lines.drop_at i (cluster_at m).messages) k ≡ work_of m step (reaction_of m counts step move no_effect)
    unfolding chosen
    work_is e =
        ap (λ s. cut_by asked.receiver (lines.cut_server k (message ready i here) s)) there
        ∙ (ap (λ q. cut_by q (lines.cut_server k (message ready i here) server)) (sym to)
        ∙ ap (λ r. cut_with r) (cut_there e))
      where
        cut_by : ℕ → cluster.Server → lines.Work
        cut_by q s =
            record {
              cluster = lines.after_step (cluster_at m) q (lines.drop_at i (cluster_at m).messages) counts.calls (reaction s [] []);
              sent = 0;
              copied = 0;
              delivered = 0;
              lost = 1;
              answers = [];
            }

        cut_with : Reaction → lines.Work
        cut_with r =
            record {
              cluster = lines.after_step (cluster_at m) target (lines.drop_at i (cluster_at m).messages) counts.calls r;
              sent = length r.sends;
              copied = 0;
              delivered = 0;
              lost = 1;
              answers = r.answers;
            }

    possible : Possible m counts step move no_effect
    unfolding cut_move
    possible =
        let few = (measured ready).messages in
        record {
          counts = refl;
          server = mine ready i here true target to;
          bucket = ours;
          there = λ e. here;
          whole = whole_cut k asked here_local (whole_at m target (slot_of target part));
          form = λ e. absurd (apart e);
        }

    cuts : judged (state_in m t) (lines.when 18 (lines.bad_cut (cluster_at m) (message ready i here) k) ∷ []) (lines.cutting (cluster_at m) (message ready i here) (lines.drop_at i (cluster_at m).messages) k)
        ≡ planned m l t counts plan
    unfolding lines.first_of
    cuts =
        ap (λ z. judged (state_in m t) (lines.when 18 z ∷ []) (lines.cutting (cluster_at m) (message ready i here) (lines.drop_at i (cluster_at m).messages) k)) bad_seen
        ∙ (condition_judged m l t counts BadCutOrStart bad [] _ (move_if_places_left counts step move no_effect)
        (λ e. ap (lines.accept_line (state_in m t)) (work_is (broadcast_then e)) ∙ moved_run m l t counts step move no_effect ready possible)
        ∙ ap (planned m l t counts) (sym plan_is))

  cut_judged : message_refusal counts i ≡ Ok tt → i < counts.messages
      → judged (state_in m t) (lines.when 18 (lines.bad_cut (cluster_at m) (lines.message_at (cluster_at m) i) k) ∷ []) (lines.cutting (cluster_at m) (lines.message_at (cluster_at m) i) (lines.drop_at i (cluster_at m).messages) k)
      ≡ planned m l t counts plan
  cut_judged taken here =
      ap (λ x. judged (state_in m t) (lines.when 18 (lines.bad_cut (cluster_at m) x k) ∷ []) (lines.cutting (cluster_at m) x (lines.drop_at i (cluster_at m).messages) k)) (message_there ready i here)
      ∙ cuts here

  pub cut_runs : lines.perform (state_in m t) (lines.cut i k) ≡ result_of t (executed m l (counts_at m.counts) (cut_at m (counts_at m.counts) i k))
  unfolding lines.conditions_up_to lines.work cut_at
  cut_runs = ready_perform ready (lines.cut i k) ∙ message_judged m l t _ _ plan ready i cut_judged
