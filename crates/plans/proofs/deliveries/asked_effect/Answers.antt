-- `deliveries::asked_effect` meets its contract: the effect is made where the message asks for it.
use Rattle.std.proofs.Common.{sym, ◌∙◌, true≢false}
use Rattle.plans.proofs.deliveries.asked_effect.Goals as goal

pub returns-then-reads_table : goal.returns-then-reads_table
returns-then-reads_table c = λ _. c.hand_effect.ensures

pub returns : goal.returns
returns c = λ t. absurd (true≢false (sym t ∙ sym c.reads_table.ensures ∙ c.if-reads_table.false))
