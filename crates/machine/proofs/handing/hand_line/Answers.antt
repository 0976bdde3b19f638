-- `handing::hand_line` meets its contract: refused with 2, 5 or 7, or handed over.
use Rattle.std.proofs.Common.{sym, ◌∙◌}
use Rattle.std.proofs.lemmas.Result.{err_from_is_err_and}
use Rattle.plans.proofs.Judging.{in_list}
use Rattle.runs.proofs.Standing.{standing_measured}
use Rattle.machine.proofs.Messages.{hands_listed, hands_refused, hands_nowhere}
use Rattle.machine.proofs.handing.hand_line.Goals as goal

pub returns-then-not-standing-clause-hands : goal.returns-then-not-standing-clause-hands
returns-then-not-standing-clause-hands c = hands_nowhere _ _ _ c.load_counts-cluster.ensures _ _ (sym c.standing.ensures ∙ c.if-not-standing.true)

pub returns-in_err-message_refusal-clause-hands : goal.returns-in_err-message_refusal-clause-hands
returns-in_err-message_refusal-clause-hands c =
    let p = err_from_is_err_and c.from_residual.result c.from_residual.ensures.1 in
    rw (p.1, p.2)
    (hands_refused _ _ _ c.load_counts-cluster.ensures _ _ _ _ (sym c.standing.ensures ∙ c.if-not-standing.false) c.message_refusal.ensures c.in_err-message_refusal.was)

pub hand_listed-requires : goal.hand_listed-requires
hand_listed-requires c =
    (standing_measured _ (sym c.standing.ensures ∙ c.if-not-standing.false), in_list _ _ _ (sym c.message_refusal.ensures ∙ c.in_ok-message_refusal.was))

pub returns-clause-hands : goal.returns-clause-hands
returns-clause-hands c =
    hands_listed _ _ _ c.load_counts-cluster.ensures _ _ _ _ (sym c.standing.ensures ∙ c.if-not-standing.false) c.message_refusal.ensures c.in_ok-message_refusal.was c.hand_listed.ensures.hands
