-- `calls::plan_at` meets its contract: what its calls ensure, put together.
use Rattle.plans.proofs.Judging.{called}
use Rattle.plans.proofs.calls.plan_at.Goals as goal

pub returns : goal.returns
returns c = called _ _ _ _ _ _ _ _ _ _ _ c.slot_of-slot.ensures c.load_local-local.ensures c.call_effect-effect.ensures c.call_plan.ensures
