-- `calls::call_effect` meets its contract: the effect itself will do, and where it is not needed one that writes nothing.
use Rattle.std.proofs.Common.{sym, ◌∙◌}
use Rattle.moves.proofs.Needed.{known, unneeded}
use Rattle.plans.proofs.calls.call_effect.Goals as goal

pub returns-then-needs_effect : goal.returns-then-needs_effect
returns-then-needs_effect c = known _ _ _ _ _ c.effect_of.ensures

pub returns : goal.returns
returns c = unneeded _ _ _ _ _ (sym c.needs_effect.ensures ∙ c.if-needs_effect.false) c.nothing_written.ensures
