-- A line's run, with its tally, is the definition's step.
use Rattle.std.specs.Prelude.{Result, Ok, Err}
use Rattle.std.proofs.Common.{◌≡◌, ℕ, ◌^◌, ◌<◌, Bool, true, false, eqb, List, length, sym, refl, ap, ◌∙◌, subst, mod-eq_of_lt, arith}
use mathlib.Core.Option.{Option, none, some}
use Rattle.model.specs.Measures.{max_election}
use Rattle.model.specs.Cluster as cluster
use Rattle.model.specs.Lines as lines
use Rattle.limits.proofs.Refusals.{ComesOut, refused_by_lem, perform_comes_out}
use Rattle.limits.specs.Stands.{Measured}
use Rattle.limits.proofs.Always.{line_keeps_measures}
use Rattle.blocks.specs.Order.{Ordered}
use Rattle.memory.specs.Layout.{counts_at, order_of}
use Rattle.views.specs.Memory.{Memory, Sized, standing, cluster_in}
use Rattle.views.specs.Changes.{answers_room}
use Rattle.parse.specs.declared.Line.{Line}
use Rattle.parse.specs.Meaning.{line_in}
use Rattle.refusals.specs.declared.Refusal.{Refusal}
use Rattle.runs.specs.declared.Report.{Report}
use Rattle.runs.specs.Meaning.{state_in, Bounded, performed, tallied_by, result_by, result_of, WholeLine, tally_in, outcome_in, tally_after}
use Rattle.runs.proofs.LineMeans.{line_means}
use Rattle.runs.proofs.Ordering.{line_orders}
use Rattle.runs.specs.declared.Tally.{Tally}
use Rattle.machine.specs.declared.Stepped.{Stepped}
use Rattle.machine.specs.Steps.{RanLine}
use Rattle.machine.specs.Meaning.{Performed}

performed_comes_out : (s : lines.State) (o : Option lines.Line) → ComesOut s o (performed s o)
unfolding performed
performed_comes_out s none = refused_by_lem 1 (omega arith) (omega arith)
performed_comes_out s (some x) = perform_comes_out max_election s x

-- counts within the measures are below 2 ^ 32
record Small (t : lines.Tally) : Type 0 where
  sent : t.sent < 2 ^ 32
  copied : t.copied < 2 ^ 32
  delivered : t.delivered < 2 ^ 32
  lost : t.lost < 2 ^ 32

small : (o : Option cluster.Cluster) (t : lines.Tally) → Measured o t → Small t
small none t e = record {
  sent = omega (arith, ap (λ x. x.sent) e);
  copied = omega (arith, ap (λ x. x.copied) e);
  delivered = omega (arith, ap (λ x. x.delivered) e);
  lost = omega (arith, ap (λ x. x.lost) e);
}
small (some c) t h = record {
  sent = omega (arith, h.sent, h.accepted);
  copied = omega (arith, h.copied, h.accepted);
  delivered = omega (arith, h.tallied.balance, h.sent, h.copied, h.accepted);
  lost = omega (arith, h.tallied.balance, h.sent, h.copied, h.accepted);
}

module _ (m : Memory) (l : List ℕ) (t : Tally) (x : Line) (m' : Memory) (l' : List ℕ) (r : Result Report Refusal) (sized : Sized m) (answers : length l ≡ answers_room) (whole : WholeLine x) (run : RanLine m l x m' l' r)
    (bounded : Bounded m (tally_in t)) where
  abbrev after : Result Report Refusal → lines.LineResult
  after r = record { state = state_in m' (tally_in (tally_after t r)); outcome = outcome_in r l' }

  raw_result : performed (state_in m (tally_in t)) (line_in x) ≡ result_by (tally_in t) m' l' r
  raw_result =
      line_means m l (tally_in t) x run.effect sized answers whole bounded run.asked ∙ ap (result_of (tally_in t)) (sym run.is)

  kept : Measured (performed (state_in m (tally_in t)) (line_in x)).state.cluster (performed (state_in m (tally_in t)) (line_in x)).state.tally
  kept = line_keeps_measures max_election (state_in m (tally_in t)) (line_in x) _ (performed_comes_out (state_in m (tally_in t)) (line_in x)) bounded.measured

  by_told : (r : Result Report Refusal) → performed (state_in m (tally_in t)) (line_in x) ≡ result_by (tally_in t) m' l' r → performed (state_in m (tally_in t)) (line_in x) ≡ after r
  unfolding result_by tally_after outcome_in
  by_told (Err e) result = result
  by_told (Ok r) result =
      let low : Small (tallied_by (tally_in t) r) = small (cluster_in m') _ (subst (λ y. Measured y.state.cluster y.state.tally) result kept) in
      result ∙ rw (mod-eq_of_lt low.sent, mod-eq_of_lt low.copied, mod-eq_of_lt low.delivered, mod-eq_of_lt low.lost)

  pub step_means : performed (state_in m (tally_in t)) (line_in x) ≡ after r
  step_means = by_told r raw_result

  pub step_bounded : Bounded m' (tally_in (tally_after t r))
  step_bounded =
      record {
        measured = subst (λ y. Measured y.state.cluster y.state.tally) step_means kept;
        ordered = subst (λ (z : Memory). standing (counts_at z.counts) ≡ true → Ordered (order_of z.queue)) (sym (ap (λ z. z.memory) run.is)) (line_orders m l x run.effect sized.queue bounded.ordered);
      }

-- the contract of `step`, from its parts
pub steps : (m : Memory) (l : List ℕ) (t : Tally) (x : Line) (m' : Memory) (l' : List ℕ) (r : Stepped) → Sized m → length l ≡ answers_room → WholeLine x → RanLine m l x m' l' r.report
    → r.tally ≡ tally_after t r.report → Performed m l t x m' l' r
steps m l t x m' l' r sized answers whole run e = record {
  leaves = run;
  tally = e;
  means = λ h. rw e (step_means m l t x m' l' r.report sized answers whole run h);
  bounded = λ h. rw e (step_bounded m l t x m' l' r.report sized answers whole run h);
}
