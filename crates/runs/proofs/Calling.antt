-- The five calls: the run of a call is what the definitions make of its line.
use Rattle.std.specs.Prelude.{Result, Err}
use Rattle.std.proofs.Common.{◌≡◌, ℕ, ◌+◌, ◌%◌, ◌^◌, ◌<◌, ◌≤◌, Bool, true, false, not, eqb, leb, ◌⊎◌, List, [], sym, refl, ap, ◌∙◌, subst, ap₂, subst₂, inl, inr, mod-eq_of_lt, arith, eqb-true, leb-true}
use mathlib.Core.Option.{some}
use borrow.Author.Tests.{lt-leb}
use Rattle.entries.specs.Decoded.{table_in}
use Rattle.model.specs.Calls as calls
use Rattle.model.specs.Cluster as cluster
use Rattle.model.specs.Leader.{begin_call}
use Rattle.model.specs.Lines as lines
use Rattle.model.proofs.FirstRound.{written_effect}
use Rattle.limits.specs.Measures.{Fits, WordsSized}
use Rattle.limits.proofs.Tables.{EffectWithin, effect_within}
use Rattle.server.specs.declared.Call.{Call}
use Rattle.server.specs.declared.Words.{Words}
use Rattle.server.specs.declared.Effect.{Effect}
use Rattle.server.specs.Views.{among, role_in, call_in, effect_in}
use Rattle.memory.specs.declared.Counts.{Counts}
use Rattle.memory.specs.Layout.{slot_of, counts_at, place_at}
use Rattle.refusals.specs.declared.Refusal.{Refusal}
use Rattle.refusals.specs.declared.Refusal.TheVariants.{BadLength, NotLeading, BucketOccupied}
use Rattle.refusals.specs.Refusals.{refused_where, inside}
use Rattle.moves.specs.declared.Local.{Local}
use Rattle.moves.specs.declared.Move.{Move}
use Rattle.moves.specs.declared.Filling.TheVariants as filling
use Rattle.moves.specs.Moves.{reading_move, finished_move, recovered, started_move, alone_move, begun_move}
use Rattle.moves.proofs.CallMoves.{writes_so, begun_means}
use Rattle.moves.specs.Reactions.{EffectNeeded, asked_in}
use Rattle.views.specs.Memory.{Memory, WholeLocal, table_at, local_at, call_words_at, server_at, cluster_at}
use Rattle.views.proofs.Contents.{tables_at}
use Rattle.views.proofs.Seen.{length_servers, role_there, call_there, server_seen}
use Rattle.views.proofs.Whole.{whole_at, whole_begun}
use Rattle.plans.specs.declared.Step.{Step}
use Rattle.plans.specs.declared.Plan.{Plan}
use Rattle.plans.specs.declared.Plan.TheVariants.{Takes}
use Rattle.plans.specs.Plans.{no_message, carried, unless, bad_lengths, call_bucket, call_step, leader_refusal, take_plan, call_plan, call_at}
use Rattle.runs.specs.Runs.{taken, accepted, executed, CallEffect}
use Rattle.runs.specs.Meaning.{state_in, result_of}
use Rattle.runs.proofs.Filling.{apart}
use Rattle.runs.proofs.Accepting.{Ready, Possible, work_of, reaction_of}
use Rattle.runs.proofs.Carried.{carries_out, lacks_room}
use Rattle.runs.proofs.Taken.{taken_read, taken_local, taken_cluster, taken_ready}
use Rattle.runs.proofs.Standing.{measured, standing_cluster}
use Rattle.runs.proofs.Conditions.{judged, planned, refusing, unless_where, ready_perform, condition_judged, places_judged, server_stands, place_judged, server_judged}
use Rattle.runs.proofs.Resting.{cluster_within, last_low, counter_low, table_fits}
use Rattle.runs.proofs.Wording.{Said, Fine}

-- ---- the move of a call

-- a call's new table is written only where its effect is to write, by a server alone or on a recovered copy
begun_written : (n me i kind result : ℕ) (l : Local) → (begun_move n me i kind result l).fills ≡ filling.Table → (eqb result 0 ≡ true) × ((n ≤ 1) ⊎ (recovered l ≡ true))
begun_written n me i kind result l = go (leb n 1) refl (eqb result 0) refl (recovered l) refl
  where
    go : (x : Bool) → leb n 1 ≡ x → (y : Bool) → eqb result 0 ≡ y → (z : Bool) → recovered l ≡ z
        → (begun_move n me i kind result l).fills ≡ filling.Table → (eqb result 0 ≡ true) × ((n ≤ 1) ⊎ (recovered l ≡ true))
    go true e true d z c h = (d, inl (leb-true n 1 e))
    go true e false d z c h = let g : filling.Stays ≡ filling.Table = unfold begun_move alone_move finished_move in (rw (begun_move, e, alone_move, d) at h) in absurd (apart g)
    go false e true d true c h = (d, inr c)
    go false e false d true c h = let g : filling.Stays ≡ filling.Table = unfold begun_move started_move reading_move in (rw (begun_move, e, started_move, c, d) at h) in absurd (apart g)
    go false e y d false c h = let g : filling.Copy ≡ filling.Table = unfold begun_move started_move reading_move in (rw (begun_move, e, started_move, c) at h) in let z : ◌≡◌ {A = ℕ} 0 1 = cc in absurd (omega arith)

module _ {m : Memory} {l : List ℕ} {t : lines.Tally} (ready : Ready m l t) (s b : ℕ) (server : s < (counts_at m.counts).servers) (bucket : b < (counts_at m.counts).buckets)
    (words : calls.Words) (kind : ℕ) (f : Effect) (live : among 5 kind ≡ true) (sized : WordsSized words) (there : call_words_at m (slot_of s b) ≡ words)
    (here : Local) (same : local_at m s (slot_of s b) ≡ here) (named : calls.bucket_for (counts_at m.counts).buckets words ≡ b)
    (effect : EffectNeeded (counts_at m.counts).servers here words (table_at m.copies (slot_of s b)) f) where
  abbrev c : Counts
  c = counts_at m.counts

  abbrev n : ℕ
  n = c.servers

  abbrev k : ℕ
  k = slot_of s b

  abbrev step : Step
  step = call_step c s b

  abbrev move_of : Local → Move
  move_of x = begun_move n s ((c.calls + 1) % 2 ^ 32) kind f.result x

  abbrev move : Move
  move = move_of here

  call_number : (c.calls + 1) % 2 ^ 32 ≡ c.calls + 1
  call_number = mod-eq_of_lt (omega (arith, (cluster_within ready).calls, ready.stands.accepted))

  begun : begin_call n s b (c.calls + 1) words (server_at n c.buckets m s) ≡ reaction_of m c step move f
  begun =
      let x = tables_at m k (place_at m.queue 0) (table_in f.table) in
      ap (λ i. begin_call n s b i words (server_at n c.buckets m s)) (sym call_number)
      ∙ (ap (λ w. begin_call n s b ((c.calls + 1) % 2 ^ 32) w (server_at n c.buckets m s)) (sym there)
      ∙ (begun_means n s b ((c.calls + 1) % 2 ^ 32) kind (server_at n c.buckets m s) (local_at m s k) x (call_words_at m k) (call_words_at m k) f (asked_in no_message)
      (measured ready).some_servers (measured ready).servers server (server_seen n c.buckets m s b bucket) live
      (subst₂ (λ x w. EffectNeeded n x w (table_at m.copies k) f) (sym same) (sym there) effect) refl (last_low ready s b server bucket) (counter_low ready s b server bucket)
      ∙ ap (λ z. reaction_of m c step (move_of z) f) same))

  call_work : lines.work (cluster_at m) (lines.call s words) ≡ work_of m step (reaction_of m c step move f)
  unfolding lines.work
  call_work =
      let x = cluster_at m in
      let bucketed = calls.bucket_for c.buckets words in
      ap (λ z. lines.by_line x s (c.calls + 1) (begin_call z s bucketed (c.calls + 1) words (lines.server_at x s))) (length_servers n c.buckets m)
      ∙ (ap (λ z. lines.by_line x s (c.calls + 1) (begin_call n s z (c.calls + 1) words (lines.server_at x s))) named
      ∙ (ap (λ z. lines.by_line x s (c.calls + 1) (begin_call n s b (c.calls + 1) words z)) (server_stands m s server)
      ∙ (ap (lines.by_line x s (c.calls + 1)) begun ∙ ap (λ z. lines.by_line x s z (reaction_of m c step move f)) (sym call_number))))

  call_fits : move.fills ≡ filling.Table → Fits (table_in f.table)
  unfolding calls.effect_writes
  call_fits h =
      let (z, where-so) = begun_written n s ((c.calls + 1) % 2 ^ 32) kind f.result here h in
      let does = calls.effect words (table_at m.copies k) in
      let written : calls.effect_writes (effect_in f) ≡ calls.effect_writes does =
      elim where-so [ inl one ↦ ap calls.effect_writes (effect.alone one) | inr r ↦ effect.written r ] in
      let made : does ≡ calls.writes (table_in f.table) = written_effect does (table_in f.table) (sym written ∙ ap calls.effect_writes (writes_so f z)) in
      subst EffectWithin made (effect_within words (table_at m.copies k) sized (table_fits ready s b server bucket))

  call_possible : Possible m c step move f
  call_possible =
      record {
        counts = refl;
        server = server;
        bucket = bucket;
        there = λ e. let z : ◌≡◌ {A = ℕ} 0 1 = cc in absurd (omega arith);
        whole = whole_begun n s ((c.calls + 1) % 2 ^ 32) kind f.result here (subst WholeLocal same (whole_at m s k));
        form = call_fits;
      }

-- ---- what refuses a call

-- 8
leads : (x : ℕ) → lines.is_leading (role_in x) ≡ eqb x 2
unfolding role_in lines.is_leading
leads x = go (eqb x 1) refl (eqb x 2) refl
  where
    go : (y : Bool) → eqb x 1 ≡ y → (z : Bool) → eqb x 2 ≡ z → lines.is_leading (role_in x) ≡ eqb x 2
    go true e z d = rw (eqb-true x 1 e)
    go false e true d = rw (role_in, e, d)
    go false e false d = rw (role_in, e, d)

-- 9
call_present : (x : Call) (words : calls.Words) → lines.present (call_in x words) ≡ among 5 x.kind
unfolding call_in lines.present
call_present x words = go (among 5 x.kind) refl
  where
    go : (z : Bool) → among 5 x.kind ≡ z → lines.present (call_in x words) ≡ among 5 x.kind
    go true e = rw (call_in, e)
    go false e = rw (call_in, e)

-- 8 and 9 as conditions
unless_leader : (l : Local) (p : Result Plan Refusal)
    → unless (leader_refusal l) p ≡ refusing NotLeading (not (eqb l.head.role 2)) (refusing BucketOccupied (among 5 l.call.kind) p)
unfolding leader_refusal unless
unless_leader l p = go (eqb l.head.role 2)
  where
    go : (z : Bool)
        → unless (elim z [ false ↦ Err NotLeading | true ↦ refused_where (among 5 l.call.kind) BucketOccupied ]) p
        ≡ refusing NotLeading (not z) (refusing BucketOccupied (among 5 l.call.kind) p)
    go false = refl
    go true = unless_where (among 5 l.call.kind) BucketOccupied p

-- ---- a call that is taken

module _ (m : Memory) (l : List ℕ) (t : lines.Tally) (ready : Ready m l t) (s : ℕ) (w : Words) (words : calls.Words) (said : Said w words) (f : Effect)
    (effect : CallEffect m (counts_at m.counts) s w f) where
  abbrev counts : Counts
  counts = counts_at m.counts

  abbrev part : ℕ
  part = call_bucket counts w

  abbrev local : Local
  local = local_at m s (slot_of s part)

  abbrev begun_at : Move
  begun_at = begun_move counts.servers s ((counts.calls + 1) % 2 ^ 32) w.kind f.result local

  abbrev plan : Result Plan Refusal
  plan = take_plan counts (call_step counts s part) w begun_at f

  module _ (server : s < counts.servers) (bucket : part < counts.buckets) (lengths : bad_lengths w ≡ false)
      (leading : not (eqb local.head.role 2) ≡ false) (free : among 5 local.call.kind ≡ false) where
    abbrev fine : Fine w words
    fine = said.fine lengths

    abbrev stored : Memory
    stored = taken m w (call_step counts s part)

    slot : slot_of s part < 56
    slot = omega (arith, (measured ready).servers, (measured ready).buckets)

    ready_stored : Ready stored l t
    ready_stored = taken_ready m w (call_step counts s part) ready.sized slot fine.whole free l t ready

    same_cluster : cluster_at stored ≡ cluster_at m
    same_cluster = taken_cluster m w (call_step counts s part) ready.sized slot fine.whole free

    same_state : state_in stored t ≡ state_in m t
    same_state = ap (λ o. record { cluster = o; tally = t }) (standing_cluster stored ready_stored.standing ∙ (ap some same_cluster ∙ sym (standing_cluster m ready.standing)))

    its_effect : EffectNeeded counts.servers local words (table_at m.copies (slot_of s part)) f
    unfolding inside
    its_effect =
        subst (λ x. EffectNeeded counts.servers local x (table_at m.copies (slot_of s part)) f) (sym fine.same)
        (effect (rw (inside, lt-leb counts.servers s server, lt-leb counts.buckets part bucket) refl) lengths)

    same_words : call_words_at stored (slot_of s part) ≡ words
    same_words = taken_read m w (call_step counts s part) ready.sized slot fine.whole ∙ sym fine.same

    same_local : local_at stored s (slot_of s part) ≡ local
    same_local = taken_local m w (call_step counts s part) s (slot_of s part)

    work_stored : lines.work (cluster_at stored) (lines.call s words) ≡ work_of stored (call_step counts s part) (reaction_of stored counts (call_step counts s part) begun_at f)
    unfolding taken
    work_stored = call_work ready_stored s part server bucket words w.kind f said.live fine.sized same_words local same_local (fine.bucket counts) its_effect

    possible_stored : Possible stored counts (call_step counts s part) begun_at f
    unfolding taken
    possible_stored = call_possible ready_stored s part server bucket words w.kind f said.live fine.sized same_words local same_local (fine.bucket counts) its_effect

    call_carried : lines.accept_line (state_in stored t) (work_of stored (call_step counts s part) (reaction_of stored counts (call_step counts s part) begun_at f))
        ≡ planned m l t counts plan
    unfolding executed accepted
    call_carried =
        places_judged m l t counts (call_step counts s part) begun_at (Takes w (carried (call_step counts s part) begun_at f)) _ (carries_out stored l t counts (call_step counts s part) begun_at f ready_stored possible_stored)
        (λ e. lacks_room stored l t counts (call_step counts s part) begun_at f ready_stored possible_stored e ∙ ap (λ x. lines.refuse x 12) same_state)

    begins : judged (state_in m t) [] (lines.work (cluster_at m) (lines.call s words)) ≡ planned m l t counts plan
    unfolding lines.first_of
    begins =
        ap₂ (λ x y. lines.accept_line x (lines.work y (lines.call s words))) (sym same_state) (sym same_cluster)
        ∙ (ap (lines.accept_line (state_in stored t)) work_stored ∙ call_carried)

  -- ---- the line

  module _ (server : s < counts.servers) (bucket : part < counts.buckets) (lengths : bad_lengths w ≡ false) where
    leading_seen : lines.is_leading (lines.server_at (cluster_at m) s).volatile.role ≡ eqb local.head.role 2
    leading_seen =
        ap (λ x. lines.is_leading x.volatile.role) (server_stands m s server)
        ∙ (ap lines.is_leading (role_there counts.servers counts.buckets m s) ∙ leads local.head.role)

    call_seen : lines.present (cluster.call_at (lines.server_at (cluster_at m) s).volatile (calls.bucket_for (cluster_at m).buckets words)) ≡ among 5 local.call.kind
    call_seen =
        ap (λ x. lines.present (cluster.call_at x.volatile (calls.bucket_for counts.buckets words))) (server_stands m s server)
        ∙ (ap (λ b. lines.present (cluster.call_at (server_at counts.servers counts.buckets m s).volatile b)) ((said.fine lengths).bucket counts)
        ∙ (ap lines.present (call_there counts.servers counts.buckets m s part bucket) ∙ call_present local.call (call_words_at m (slot_of s part))))

  pub call_runs : lines.perform (state_in m t) (lines.call s words) ≡ result_of t (executed m l (counts_at m.counts) (call_at m (counts_at m.counts) s w f))
  unfolding lines.conditions_up_to call_at call_plan
  call_runs =
      ready_perform ready (lines.call s words)
      ∙ place_judged m l t _ _ _ s part _ (said.buckets (cluster_at m) counts refl (measured ready).some_buckets) (λ server bucket.
      rw said.bad (condition_judged m l t counts BadLength _ _ _ _ (λ lengths.
      rw (unless_leader local plan, leading_seen server bucket lengths, call_seen server bucket lengths)
      (server_judged m l t _ _ _ s server (λ running.
      condition_judged m l t counts NotLeading _ _ _ _ (λ leading.
      condition_judged m l t counts BucketOccupied _ _ _ _ (λ free. begins server bucket lengths leading free)))))))
