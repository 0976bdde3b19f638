-- `calls::plan_call` meets its contract: refused with 3 or 4, or judged further.
use Rattle.std.proofs.Common.{sym, ◌∙◌, refl}
use Rattle.plans.proofs.Judging.{inside_room, call_nowhere, call_unfit, call_fit}
use Rattle.plans.proofs.calls.plan_call.Goals as goal

pub returns-then-not-inside : goal.returns-then-not-inside
returns-then-not-inside c = call_nowhere _ _ _ _ _ _ _ _ c.call_bucket-bucket.ensures (sym c.inside.ensures ∙ c.if-not-inside.true) refl

pub returns-then-bad_lengths : goal.returns-then-bad_lengths
returns-then-bad_lengths c =
    call_unfit _ _ _ _ _ _ _ _ c.call_bucket-bucket.ensures (sym c.inside.ensures ∙ c.if-not-inside.false) (sym c.bad_lengths.ensures ∙ c.if-bad_lengths.true) refl

pub plan_at-requires : goal.plan_at-requires
plan_at-requires c = (c.requires, inside_room _ _ _ c.requires (sym c.inside.ensures ∙ c.if-not-inside.false))

pub returns : goal.returns
returns c =
    call_fit _ _ _ _ _ _ _ _ c.call_bucket-bucket.ensures (sym c.inside.ensures ∙ c.if-not-inside.false) (sym c.bad_lengths.ensures ∙ c.if-bad_lengths.false) c.plan_at.ensures
