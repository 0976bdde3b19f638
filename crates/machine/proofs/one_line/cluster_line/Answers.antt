-- `one_line::cluster_line` meets its contract: 2, or the new cluster.
use Rattle.std.proofs.Common.{sym, ap, ◌∙◌}
use Rattle.views.specs.Memory.{standing}
use Rattle.machine.proofs.Clusters.{stands_already, made, out_of_range, too_many_servers}
use Rattle.machine.proofs.one_line.cluster_line.Goals as goal
use Rattle.machine.proofs.one_line.cluster_line.Goals.{else-within-via-then-within+else-within-2, else-within-via-else-within}

pub returns-then-standing-clause-clusters : goal.returns-then-standing-clause-clusters
returns-then-standing-clause-clusters c = stands_already _ _ _ _ (sym (c.standing.ensures ∙ ap standing c.load_counts.ensures) ∙ c.if-standing.true)

pub returns-then-within-2-clause-clusters : goal.returns-then-within-2-clause-clusters
returns-then-within-2-clause-clusters c =
    made _ _ _ _ _ _ _ _ _ _ _ _ _ (sym (c.standing.ensures ∙ ap standing c.load_counts.ensures) ∙ c.if-standing.false) (sym c.within.ensures ∙ c.if-within.true) (sym c.within-then-within.ensures ∙ c.if-within-2.true) c.create.ensures.creates

pub returns-clause-clusters : goal.returns-clause-clusters
returns-clause-clusters c =
    let none = sym (c.standing.ensures ∙ ap standing c.load_counts.ensures) ∙ c.if-standing.false in
    elim c.else-within.branch [
      | else-within-via-then-within+else-within-2 w ↦ out_of_range _ _ _ _ none (sym c.within.ensures ∙ w.if-within.true) (sym w.within-then-within.ensures ∙ w.if-within-2.false)
      | else-within-via-else-within w ↦ too_many_servers _ _ _ _ none (sym c.within.ensures ∙ w.if-within.false)
    ]
