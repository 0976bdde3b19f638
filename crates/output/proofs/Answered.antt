-- A line has at most `most_answers` answers: one, or one for each bucket.
use Rattle.std.specs.Prelude.{Result, Ok, Err, IfOk}
use mathlib.Core.Path.{◌≡◌, refl}
use mathlib.Core.Bool.{Bool, true, false}
use mathlib.Core.List.{List}
use Prim.Native.Nat.{ℕ, zero, suc, ◌≤◌, ◌+◌}
use native.Mathlib.Omega.{arith}
use lib.Dec.{eqb}
use Rattle.entries.specs.Entries.{Entry}
use Rattle.entries.specs.Decoded.{table_in}
use Rattle.table.specs.Form.{within}
use Rattle.model.specs.Measures.{max_servers, max_buckets, most_answers}
use Rattle.server.specs.declared.Answer.{Answer}
use Rattle.server.specs.declared.Effect.{Effect}
use Rattle.server.specs.Views.{among}
use Rattle.open_calls.specs.Calls.{ended_of}
use Rattle.memory.specs.declared.Counts.{Counts}
use Rattle.memory.specs.Layout.{slot_of, counts_at, call_at}
use Rattle.moves.specs.declared.Move.{Move}
use Rattle.views.specs.Memory.{Memory, standing}
use Rattle.views.specs.Changes.{put_answer, Written, ended_calls, answered}
use Rattle.plans.specs.declared.Step.{Step}
use Rattle.refusals.specs.declared.Refusal.{Refusal}
use Rattle.plans.specs.declared.Plan.{Plan}
use Rattle.plans.specs.declared.Plan.TheVariants.{Loses, Moves, Takes}
use Rattle.runs.specs.declared.Report.{Report}
use Rattle.parse.specs.declared.Kind.{Kind}
use Rattle.parse.specs.declared.Kind.TheVariants as K
use Rattle.parse.specs.declared.Line.{Line}
use Rattle.runs.specs.Runs.{lost_run, carried_run, taken, accepted, executed, created_run, cluster_run, line_plan, planned_run, run_by, line_run}
use Rattle.runs.proofs.Standing.{standing_measured}

-- one more answer where z is true
abbrev ended_if : Bool → Answer → Written → Written
ended_if z a w = elim z [ true ↦ record { answers = put_answer w.answers w.count a; count = w.count + 1 } | false ↦ w ]

ended_most : (slots : List ℕ) (s b : ℕ) (l : List ℕ) → (ended_calls slots s b l).count ≤ b
unfolding ended_calls
ended_most slots s zero l = omega arith
ended_most slots s (suc b) l = go (ended_calls slots s b l) (ended_most slots s b l) (among 5 (call_at slots (slot_of s b)).kind)
  where
    go : (w : Written) → w.count ≤ b → (z : Bool) → (ended_if z (ended_of (call_at slots (slot_of s b))) w).count ≤ suc b
    go w h true = omega arith
    go w h false = omega arith

answered_most : (slots : List ℕ) (most s : ℕ) (v : Move) (l : List ℕ) → most ≤ max_buckets → (answered slots most s v l).count ≤ most_answers
unfolding answered
answered_most slots most s v l h = go v.ceases refl v.forgets refl (eqb v.answer.result 0) refl
  where
    go : (z : Bool) → v.ceases ≡ z → (x : Bool) → v.forgets ≡ x → (y : Bool) → eqb v.answer.result 0 ≡ y → (answered slots most s v l).count ≤ most_answers
    go true e true g y f = rw (answered, e, g) (omega arith)
    go true e false g y f = rw (answered, e, g) (omega (arith, ended_most slots s most l))
    go false e x g true f = rw (answered, e, f) (omega arith)
    go false e x g false f = rw (answered, e, f) (omega arith)

-- what a run tells has few answers
abbrev pub Few : Result Report Refusal → Type 0
Few r = IfOk r (λ x. x.answers ≤ most_answers)

module _ (m : Memory) (l : List ℕ) where
  lost_none : (c : Counts) (x : Step) → Few (lost_run m l c x).told
  unfolding lost_run
  lost_none c x = omega arith

  carried_most : (c : Counts) (x : Step) (v : Move) (made : List Entry) (f : Effect) → c.buckets ≤ max_buckets → Few (carried_run m l c x v made f).told
  unfolding carried_run
  carried_most c x v made f h = answered_most m.slots c.buckets x.server v l h

executed_most : (m : Memory) (l : List ℕ) (c : Counts) (p : Result Plan Refusal) → c.buckets ≤ max_buckets → Few (executed m l c p).told
unfolding executed accepted
executed_most m l c (Err r) h = tt
executed_most m l c (Ok (Loses x)) h = lost_none m l c x
executed_most m l c (Ok (Moves p)) h = carried_most m l c p.step p.next (table_in p.effect.table) p.effect h
executed_most m l c (Ok (Takes w p)) h = carried_most (taken m w p.step) l c p.step p.next (table_in p.effect.table) p.effect h

module _ (m : Memory) (l : List ℕ) where
  created_none : (n b : ℕ) → Few (created_run m l n b).told
  unfolding created_run
  created_none n b = go (within max_servers n) refl (within max_buckets b) refl
    where
      go : (z : Bool) → within max_servers n ≡ z → (y : Bool) → within max_buckets b ≡ y → Few (created_run m l n b).told
      go false e y f = rw (created_run, e) tt
      go true e false f = rw (created_run, e, f) tt
      go true e true f = rw (created_run, e, f) (omega arith)

  cluster_none : (n b : ℕ) → Few (cluster_run m l n b).told
  unfolding cluster_run
  cluster_none n b = go (standing (counts_at m.counts)) refl
    where
      go : (z : Bool) → standing (counts_at m.counts) ≡ z → Few (cluster_run m l n b).told
      go true e = rw (cluster_run, e) tt
      go false e = rw (cluster_run, e) (created_none n b)

  planned_most : (x : Line) (f : Effect) → Few (planned_run m l x f).told
  unfolding planned_run
  planned_most x f = go (standing (counts_at m.counts)) refl
    where
      go : (z : Bool) → standing (counts_at m.counts) ≡ z → Few (planned_run m l x f).told
      go true e = rw (planned_run, e) (executed_most m l (counts_at m.counts) (line_plan x.kind m (counts_at m.counts) x f) (standing_measured (counts_at m.counts) e).buckets)
      go false e = rw (planned_run, e) tt

  by_kind : (k : Kind) (x : Line) (f : Effect) → Few (run_by k m l x f).told
  unfolding run_by
  by_kind K.Malformed x f = tt
  by_kind K.Cluster x f = cluster_none x.first x.second
  by_kind K.Elect x f = planned_most x f
  by_kind K.Get x f = planned_most x f
  by_kind K.Set x f = planned_most x f
  by_kind K.SetIf x f = planned_most x f
  by_kind K.Del x f = planned_most x f
  by_kind K.Keys x f = planned_most x f
  by_kind K.Deliver x f = planned_most x f
  by_kind K.Copy x f = planned_most x f
  by_kind K.Lose x f = planned_most x f
  by_kind K.Timeout x f = planned_most x f
  by_kind K.Stop x f = planned_most x f
  by_kind K.Cut x f = planned_most x f
  by_kind K.Start x f = planned_most x f

pub answers_at_most : (m : Memory) (l : List ℕ) (x : Line) (f : Effect) → Few (line_run m l x f).told
unfolding line_run
answers_at_most m l x f = by_kind m l x.kind x f
