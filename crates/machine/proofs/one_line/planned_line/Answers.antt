-- `one_line::planned_line` meets its contract: planned, then carried out.
use Rattle.std.proofs.Common.{sym, ◌∙◌}
use Rattle.std.proofs.lemmas.Result.{err_from_is_err_and}
use Rattle.runs.proofs.Standing.{standing_measured}
use Rattle.machine.proofs.Executables.{executable}
use Rattle.machine.proofs.Planning.{accepted_run, refused_plan_run, unplanned_run}
use Rattle.machine.proofs.one_line.planned_line.Goals as goal

pub returns-then-not-standing-clause-runs : goal.returns-then-not-standing-clause-runs
returns-then-not-standing-clause-runs c = unplanned_run _ _ _ _ c.load_counts-cluster.ensures (sym c.standing.ensures ∙ c.if-not-standing.true)

pub plan_line-requires : goal.plan_line-requires
plan_line-requires c = (standing_measured _ (sym c.standing.ensures ∙ c.if-not-standing.false), c.requires)

pub returns-in_err-plan-clause-runs : goal.returns-in_err-plan-clause-runs
returns-in_err-plan-clause-runs c =
    let p = err_from_is_err_and c.from_residual.result c.from_residual.ensures.1 in
    rw (p.1, p.2)
    (refused_plan_run _ _ _ _ c.load_counts-cluster.ensures _ _ (sym c.standing.ensures ∙ c.if-not-standing.false) c.plan_line.ensures c.in_err-plan.was)

pub execute-requires : goal.execute-requires
execute-requires c =
    executable _ _ _ _ (standing_measured _ (sym c.standing.ensures ∙ c.if-not-standing.false)) c.plan_line.ensures.is c.in_ok-plan.was

pub returns-clause-runs : goal.returns-clause-runs
returns-clause-runs c =
    accepted_run _ _ _ _ c.load_counts-cluster.ensures _ _ _ _ _ (sym c.standing.ensures ∙ c.if-not-standing.false) c.plan_line.ensures c.in_ok-plan.was c.execute.ensures.executes
