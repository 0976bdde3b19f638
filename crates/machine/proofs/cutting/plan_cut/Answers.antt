-- `cutting::plan_cut` meets its contract: a message that is not refused is in the list.
use Rattle.std.proofs.Common.{sym, ◌∙◌, arith}
use Rattle.plans.proofs.Judging.{in_list}
use Rattle.machine.proofs.cutting.plan_cut.Goals as goal

pub load_message-message-requires : goal.load_message-message-requires
load_message-message-requires c = omega (arith, in_list c.args.cluster c.args.index _ (sym c.message_refusal.ensures ∙ c.in_ok-message_refusal.was), c.requires.messages)
