-- `handing::hand_listed` meets its contract: lost, or handed over to a server that is there.
use Rattle.std.proofs.Common.{sym, ◌∙◌}
use Rattle.std.proofs.lemmas.Result.{err_from_is_err_and}
use Rattle.plans.proofs.Judging.{step_slot}
use Rattle.runs.proofs.Reporting.{reported}
use Rattle.machine.proofs.Messages.{losable, handable, carries, handled, no_places_left, listed_lost, listed_handed}
use Rattle.machine.proofs.handing.hand_listed.Goals as goal

pub receiver-local-requires : goal.receiver-local-requires
receiver-local-requires c = step_slot c.args.cluster c.args.index c.args.removes _ _ c.message_step-step.ensures

pub lose-requires : goal.lose-requires
lose-requires c = losable c.args.cluster c.args.index c.args.removes _ _ c.message_step-step.ensures c.requires.0 c.requires.1

pub returns-then-is_gone-clause-hands : goal.returns-then-is_gone-clause-hands
returns-then-is_gone-clause-hands c =
    listed_lost _ _ _ _ _ _ _ _ _ c.args.cluster c.args.index c.args.removes _ _ _ c.load_message-message.ensures c.message_step-step.ensures c.receiver-local.ensures (sym c.is_gone.ensures ∙ c.if-is_gone.true) c.lose.ensures

pub asked_effect-effect-requires : goal.asked_effect-effect-requires
asked_effect-effect-requires c = step_slot c.args.cluster c.args.index c.args.removes _ _ c.message_step-step.ensures

pub places_refusal-requires : goal.places_refusal-requires
places_refusal-requires c = (c.requires.0.servers, c.requires.0.messages)

pub returns-in_err-places_refusal-clause-hands : goal.returns-in_err-places_refusal-clause-hands
returns-in_err-places_refusal-clause-hands c =
    let p = err_from_is_err_and c.from_residual.result c.from_residual.ensures.1 in
    rw (p.1, p.2)
    (listed_handed _ _ _ _ _ _ _ _ _ c.args.cluster c.args.index c.args.removes _ _ _ c.load_message-message.ensures c.message_step-step.ensures c.receiver-local.ensures c.asked_effect-effect.result (sym c.is_gone.ensures ∙ c.if-is_gone.false) c.asked_effect-effect.ensures
    (no_places_left _ _ _ _ _ _ c.asked_effect-effect.result _ _ _ c.handled_move-next.ensures c.places_refusal.ensures c.in_err-places_refusal.was))

pub carry_out-told-requires : goal.carry_out-told-requires
carry_out-told-requires c =
    carries _ _ (handable c.args.cluster c.args.index c.args.removes _ _ c.message_step-step.ensures c.requires.0 c.requires.1 _ (sym c.is_gone.ensures ∙ c.if-is_gone.false)) c.places_refusal.ensures c.in_ok-places_refusal.was

pub returns-clause-hands : goal.returns-clause-hands
returns-clause-hands c =
    listed_handed _ _ _ _ _ _ _ _ _ c.args.cluster c.args.index c.args.removes _ _ _ c.load_message-message.ensures c.message_step-step.ensures c.receiver-local.ensures c.asked_effect-effect.result (sym c.is_gone.ensures ∙ c.if-is_gone.false) c.asked_effect-effect.ensures
    (handled _ _ _ _ _ _ c.asked_effect-effect.result _ _ _ _ c.handled_move-next.ensures c.places_refusal.ensures c.in_ok-places_refusal.was (reported c.asked_effect-effect.result c.carry_out-told.ensures.carries c.report_of.ensures))
