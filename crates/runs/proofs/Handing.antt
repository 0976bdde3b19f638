-- `deliver` and `copy`: the run of a message handed over is what the definitions make of the line.
use Rattle.std.specs.Prelude.{Result, Ok}
use Rattle.std.proofs.Common.{◌≡◌, ℕ, zero, suc, ◌<◌, ◌≤◌, min, Bool, true, false, leb, ◌≢◌, List, [], ◌∷◌, length, sym, refl, ap, ◌∙◌, subst, ap₂, arith}
use borrow.Author.Tests.{lt-leb}
use Rattle.entries.specs.Decoded.{table_in, value_bytes}
use Rattle.model.specs.Calls as calls
use Rattle.model.specs.Cluster as cluster
use Rattle.model.specs.Leader.{Reaction, handle, on_reply}
use Rattle.model.specs.Lines as lines
use Rattle.model.specs.Measures.{max_election}
use Rattle.limits.proofs.Lists.{all_at}
use Rattle.limits.specs.Measures.{limits_after, Fits, MessageWithin}
use Rattle.limits.proofs.Tables.{EffectWithin, effect_within}
use Rattle.server.specs.declared.Message.{Message}
use Rattle.server.specs.declared.Effect.{Effect}
use Rattle.server.specs.Views.{flag_in, among, copy_in, mark_in, effect_in, chosen}
use Rattle.rounds.specs.Rounds.{no_version, pick_version, pick_table, matching}
use Rattle.rounds.proofs.RoundLaws.{matching_shut, unmatched}
use Rattle.memory.specs.declared.Counts.{Counts}
use Rattle.memory.specs.Layout.{slot_of, counts_at, head_at, place_at, message_at}
use Rattle.refusals.specs.declared.Refusal.{Refusal}
use Rattle.refusals.specs.Refusals.{message_refusal, no_receiver}
use Rattle.moves.specs.declared.Local.{Local}
use Rattle.moves.specs.declared.Move.{Move}
use Rattle.moves.specs.declared.Filling.TheVariants as filling
use Rattle.moves.specs.Moves.{reply_move, handled_move, reads_table}
use Rattle.moves.specs.Reactions.{Tables, best_in, message_in, asked_in, reaction_in}
use Rattle.moves.proofs.CallMoves.{writes_so}
use Rattle.moves.proofs.Ceasing.{quiet_means}
use Rattle.moves.proofs.ReplyMoves.{reply_means}
use Rattle.moves.proofs.Handled.{ReplyMeans, handled_means}
use Rattle.views.specs.Memory.{Memory, table_at, local_at, call_words_at, server_at, cluster_at}
use Rattle.views.specs.Queue.{Sound, flight}
use Rattle.views.proofs.Contents.{tables_at}
use Rattle.views.proofs.Queue.{length_flight, message_at_lem}
use Rattle.views.proofs.Seen.{length_servers, round_there, server_seen}
use Rattle.views.proofs.Whole.{whole_at, whole_handled}
use Rattle.plans.specs.declared.Step.{Step}
use Rattle.plans.specs.declared.Plan.{Plan}
use Rattle.plans.specs.Plans.{message_step, hand_plan, receiver_at, hand_at, gone}
use Rattle.runs.specs.Runs.{executed, HandEffect}
use Rattle.runs.specs.Meaning.{state_in, result_of}
use Rattle.runs.proofs.Accepting.{Ready, Possible, kept_messages, work_of, reaction_of}
use Rattle.runs.proofs.Standing.{measured}
use Rattle.runs.proofs.Conditions.{judged, planned, ready_perform, server_stands, stopped_seen, message_judged, moved_run, lost_run_lem}
use Rattle.runs.proofs.Resting.{cluster_within, last_low, counter_low, table_fits, call_open}
use Rattle.runs.proofs.Filling.{handled_written, reads_table_open}

-- two that differ are of several
apart_several : (n p q : ℕ) → p < n → q < n → p ≢ q → 2 ≤ n
apart_several zero p q h j d = absurd (omega arith)
apart_several (suc zero) p q h j d = absurd (d (omega arith))
apart_several (suc (suc n)) p q h j d = omega arith

-- ---- a message in flight

module _ {m : Memory} {l : List ℕ} {t : lines.Tally} (ready : Ready m l t) (i : ℕ) (here : i < (counts_at m.counts).messages) where
  abbrev pub n : ℕ
  n = (counts_at m.counts).servers

  abbrev pub most : ℕ
  most = (counts_at m.counts).buckets

  abbrev pub asked : Message
  asked = message_at m.queue i

  abbrev place : ℕ
  place = place_at m.queue i

  abbrev pub message : cluster.Message
  message = message_in asked (table_at m.payloads place)

  sound : Sound (flight m.queue m.payloads (counts_at m.counts).messages)
  sound = record { queue = ready.sized.queue; order = ready.ordered; payloads = ready.sized.payloads; count = (measured ready).messages }

  pub message_there : lines.message_at (cluster_at m) i ≡ message
  message_there = message_at_lem (flight m.queue m.payloads (counts_at m.counts).messages) i _ sound here

  pub message_within : MessageWithin n most (limits_after max_election (counts_at m.counts).lines) message
  message_within =
      let c = counts_at m.counts in
      let size = length_flight (flight m.queue m.payloads c.messages) sound in
      subst (MessageWithin n most (limits_after max_election c.lines)) message_there (all_at i _ (omega arith) (cluster_within ready).messages)

  -- ---- its receiver s

  module _ (removes : Bool) (s : ℕ) (to : s ≡ asked.receiver) where
    abbrev pub server : cluster.Server
    server = server_at n most m s

    pub mine : s < n
    mine = omega (arith, message_within.receiver)

    pub receiver_there : lines.server_at (cluster_at m) asked.receiver ≡ server
    receiver_there = ap (λ q. lines.server_at (cluster_at m) q) (sym to) ∙ server_stands m s mine

    pub receiver_stopped : lines.stopped_at (cluster_at m) asked.receiver ≡ flag_in (head_at m.heads s).stopped
    receiver_stopped = ap (λ q. lines.stopped_at (cluster_at m) q) (sym to) ∙ stopped_seen m s mine

    abbrev kept : List cluster.Message
    kept = kept_messages removes i (cluster_at m).messages

    lost : flag_in (head_at m.heads s).stopped ≡ true → lines.delivery (cluster_at m) message kept (chosen removes 0 1) ≡ lines.lost_message (cluster_at m) kept (chosen removes 0 1)
    unfolding lines.delivery
    lost e = rw (lines.delivery, receiver_stopped ∙ e)

    -- ---- its handling, on bucket b

    module _ (f : Effect) (b : ℕ) (on : b ≡ asked.bucket)
        (reads : reads_table n asked (local_at m s (slot_of s b)) ≡ true → effect_in f ≡ calls.effect (call_words_at m (slot_of s b)) (table_at m.copies (slot_of s b))) where
      abbrev k : ℕ
      k = slot_of s b

      abbrev here_local : Local
      here_local = local_at m s k

      abbrev tables : Tables
      tables = tables_at m k place (table_in f.table)

      abbrev step_at : ℕ → Step
      step_at q =
          record { server = q; bucket = b; index = i; removes = removes; asked = asked; copied = chosen removes 0 1; delivered = 1; lost = 0; calls = (counts_at m.counts).calls }

      abbrev step : Step
      step = step_at s

      abbrev move : Move
      move = handled_move n s f.result asked here_local

      ours : b < most
      ours = omega (arith, message_within.bucket)

      -- sender and receiver differ
      several : 2 ≤ n
      several = let w = message_within in apart_several n asked.sender asked.receiver w.sender w.receiver w.apart

      -- what is to be shown of it as a reply
      abbrev Replied : ℕ → Bool → Type 0
      Replied mark reports =
          let report = pick_version reports asked.version no_version in
          on_reply n s message (mark_in mark) (copy_in report (pick_table reports (table_at m.payloads place) [])) server
          ≡ reaction_in n s b (asked_in asked) (reply_move n s f.result mark report asked here_local) tables (call_words_at m k) (value_bytes f.value) (table_in f.table) server

      -- with no round open it changes nothing
      shut : (mark : ℕ) (reports : Bool) → among 4 here_local.round.purpose ≡ false → Replied mark reports
      unfolding reply_move
      shut mark reports d =
          let r = here_local.round in
          let best = best_in r (table_at m.working k) in
          let there = ap (λ j. cluster.round_at server.volatile j) (sym on) ∙ round_there n most m s b ours in
          rw (reply_move, matching_shut n r [] asked.election asked.round d)
          (unmatched n s message (mark_in mark) _ server (ap (matching asked.election asked.round) there ∙ matching_shut n r best asked.election asked.round d)
          ∙ quiet_means n s b (asked_in asked) server here_local tables (call_words_at m k) (value_bytes f.value) (table_in f.table) (server_seen n most m s b ours))

      replies : ReplyMeans n s b f.result asked server here_local tables (call_words_at m k) (value_bytes f.value) (table_in f.table)
      replies mark reports e = go (among 4 here_local.round.purpose) refl
        where
          go : (z : Bool) → among 4 here_local.round.purpose ≡ z → Replied mark reports
          go true d =
              let call = call_open ready s b mine ours d in
              reply_means n s b (asked_in asked) server here_local tables (call_words_at m k) f mark reports asked message several (measured ready).servers mine
              (server_seen n most m s b ours) refl refl refl (sym on) (λ h. call.live) (λ h. reads (unfold reads_table in rw (reads_table, e) h)) refl
              (omega (arith, last_low ready s b mine ours)) (omega (arith, call.rounds, ready.stands.accepted)) (counter_low ready s b mine ours)
          go false d = shut mark reports d

      handled : handle n s message server ≡ reaction_of m (counts_at m.counts) step move f
      handled =
          handled_means n s b f.result asked server here_local tables (call_words_at m k) (value_bytes f.value) (table_in f.table) (server_seen n most m s b ours)
          on replies

      -- ---- what it comes to

      abbrev reaction : Reaction
      reaction = reaction_of m (counts_at m.counts) step move f

      handled_there : handle (length (cluster_at m).servers) asked.receiver message (lines.server_at (cluster_at m) asked.receiver) ≡ reaction
      handled_there =
          ap (λ z. handle z asked.receiver message (lines.server_at (cluster_at m) asked.receiver)) (length_servers n most m)
          ∙ (ap (handle n asked.receiver message) receiver_there
          ∙ (ap (λ q. handle n q message server) (sym to) ∙ handled))

      delivered : flag_in (head_at m.heads s).stopped ≡ false → lines.delivery (cluster_at m) message kept (chosen removes 0 1) ≡ work_of m step reaction
      unfolding lines.delivery
      delivered e = rw (lines.delivery, receiver_stopped ∙ e, handled_there) (ap (λ q. work_of m (step_at q) reaction) (sym to))

      fitting : move.fills ≡ filling.Table → Fits (table_in f.table)
      fitting h =
          let (r, z) = handled_written n s f.result here_local asked h in
          let call = call_open ready s b mine ours (reads_table_open n asked here_local r) in
          let fits = effect_within (call_words_at m k) (table_at m.copies k) call.sizes (table_fits ready s b mine ours) in
          subst EffectWithin (sym (reads r) ∙ writes_so f z) fits

      possible : Possible m (counts_at m.counts) step move f
      possible =
          let few = (measured ready).messages in
          record {
            counts = refl;
            server = mine;
            bucket = ours;
            there = λ e. here;
            whole = whole_handled n s f.result asked here_local (whole_at m s k);
            form = fitting;
          }

-- ---- the lines

-- `deliver` removes the message, `copy` leaves it
abbrev hand_line : Bool → ℕ → lines.Line
hand_line removes i = elim removes [ true ↦ lines.deliver i | false ↦ lines.copy i ]

hand_conditions : (c : cluster.Cluster) (i : ℕ) (removes : Bool)
    → lines.conditions c (hand_line removes i) ≡ lines.when 5 (lines.limit_reached c) ∷ lines.when 7 (lines.no_message c i) ∷ []
unfolding lines.conditions_up_to
hand_conditions c i true = refl
hand_conditions c i false = refl

hand_work : (c : cluster.Cluster) (i : ℕ) (removes : Bool)
    → lines.work c (hand_line removes i) ≡ lines.delivery c (lines.message_at c i) (kept_messages removes i c.messages) (chosen removes 0 1)
unfolding lines.work chosen
hand_work c i true = refl
hand_work c i false = refl

module _ (m : Memory) (l : List ℕ) (t : lines.Tally) (ready : Ready m l t) (i : ℕ) (removes : Bool) (f : Effect) (effect : HandEffect m (counts_at m.counts) i f) where
  abbrev counts : Counts
  counts = counts_at m.counts

  -- the message's server and bucket, as the plan names them
  abbrev target : ℕ
  target = min 6 (message_at m.queue i).receiver

  abbrev part : ℕ
  part = min 7 (message_at m.queue i).bucket

  abbrev plan : Result Plan Refusal
  plan = hand_plan counts (message_step counts i removes (message_at m.queue i)) (message_at m.queue i) (receiver_at m i) f

  module _ (here : i < counts.messages) (taken : message_refusal counts i ≡ Ok tt) where
    to : target ≡ (message_at m.queue i).receiver
    to = omega (arith, (message_within ready i here).receiver, (measured ready).servers)

    on : part ≡ (message_at m.queue i).bucket
    on = omega (arith, (message_within ready i here).bucket, (measured ready).buckets)

    among_servers : leb counts.servers (message_at m.queue i).receiver ≡ false
    among_servers = lt-leb counts.servers (message_at m.queue i).receiver (message_within ready i here).receiver

    handed_by : (z : Bool) → flag_in (head_at m.heads target).stopped ≡ z
        → lines.accept_line (state_in m t) (lines.delivery (cluster_at m) (message ready i here) (kept_messages removes i (cluster_at m).messages) (chosen removes 0 1)) ≡ planned m l t counts plan
    unfolding hand_plan gone no_receiver
    handed_by true e =
        ap (lines.accept_line (state_in m t)) (lost ready i here removes target to e)
        ∙ (lost_run_lem m l t counts i removes ready refl (λ h. here) ∙ rw (hand_plan, gone, no_receiver, among_servers, e))
    handed_by false e =
        let reads = effect taken (rw (gone, no_receiver, among_servers, e)) in
        let x = step ready i here removes target to f part on reads in
        let v = move ready i here removes target to f part on reads in
        ap (lines.accept_line (state_in m t)) (delivered ready i here removes target to f part on reads e)
        ∙ (moved_run m l t counts x v f ready (possible ready i here removes target to f part on reads) ∙ rw (hand_plan, gone, no_receiver, among_servers, e))

  handed : message_refusal counts i ≡ Ok tt → i < counts.messages
      → judged (state_in m t) [] (lines.delivery (cluster_at m) (lines.message_at (cluster_at m) i) (kept_messages removes i (cluster_at m).messages) (chosen removes 0 1))
      ≡ planned m l t counts plan
  unfolding lines.first_of
  handed taken here =
      let kept = kept_messages removes i (cluster_at m).messages in
      ap (λ x. lines.accept_line (state_in m t) (lines.delivery (cluster_at m) x kept (chosen removes 0 1))) (message_there ready i here)
      ∙ handed_by here taken (flag_in (head_at m.heads target).stopped) refl

  pub hand_runs : lines.perform (state_in m t) (elim removes [ true ↦ lines.deliver i | false ↦ lines.copy i ])
      ≡ result_of t (executed m l (counts_at m.counts) (hand_at m (counts_at m.counts) i removes f))
  unfolding hand_at
  hand_runs =
      ready_perform ready (hand_line removes i)
      ∙ (ap₂ (judged (state_in m t)) (hand_conditions (cluster_at m) i removes) (hand_work (cluster_at m) i removes)
      ∙ message_judged m l t [] _ plan ready i handed)
