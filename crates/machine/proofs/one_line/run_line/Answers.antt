-- `one_line::run_line` meets its contract: kind by kind.
use Rattle.std.proofs.Common.{ap, ◌∙◌}
use Rattle.machine.proofs.Planning.{planned_by_default, malformed_run, cluster_made, cluster_refused, deliver_run, copy_run, planned_run_of}
use Rattle.std.proofs.lemmas.Result.{err_from_is_err_and}
use Rattle.machine.proofs.one_line.run_line.Goals as goal

pub returns-in-Malformed-clause-runs : goal.returns-in-Malformed-clause-runs
returns-in-Malformed-clause-runs c = malformed_run _ _ _ c.in-Malformed.is

pub returns-in_err-cluster_line-in-Cluster-clause-runs : goal.returns-in_err-cluster_line-in-Cluster-clause-runs
returns-in_err-cluster_line-in-Cluster-clause-runs c =
    let p = err_from_is_err_and c.from_residual.result c.from_residual.ensures.1 in
    rw (p.1, p.2) (cluster_refused _ _ _ _ _ _ _ c.in-Cluster.is c.cluster_line.ensures.clusters c.in_err-cluster_line-in-Cluster.was)

pub returns-in_ok-cluster_line-in-Cluster-clause-runs : goal.returns-in_ok-cluster_line-in-Cluster-clause-runs
returns-in_ok-cluster_line-in-Cluster-clause-runs c =
    cluster_made _ _ _ _ _ _ _ _ c.in-Cluster.is c.cluster_line.ensures.clusters c.in_ok-cluster_line-in-Cluster.was c.bare_report.ensures

pub returns-in-Deliver-clause-runs : goal.returns-in-Deliver-clause-runs
returns-in-Deliver-clause-runs c = deliver_run _ _ _ _ _ _ c.in-Deliver.is c.hand_line.ensures.hands

pub returns-in-Copy-clause-runs : goal.returns-in-Copy-clause-runs
returns-in-Copy-clause-runs c = copy_run _ _ _ _ _ _ c.in-Copy.is c.hand_line-in-Copy.ensures.hands

pub planned_line-requires : goal.planned_line-requires
planned_line-requires c = planned_by_default _ c.in_default.not-Malformed c.in_default.not-Cluster c.in_default.not-Deliver c.in_default.not-Copy

pub returns-in_default-clause-runs : goal.returns-in_default-clause-runs
returns-in_default-clause-runs c =
    planned_run_of _ _ _ _ _ _ (planned_by_default _ c.in_default.not-Malformed c.in_default.not-Cluster c.in_default.not-Deliver c.in_default.not-Copy) c.planned_line.ensures.runs
