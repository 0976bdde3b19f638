-- `answers::end_calls` meets its contract: slot by slot.
use mathlib.Core.Path.{◌≡◌, refl, sym, ap, ◌∙◌}
use native.Mathlib.Omega.{arith}
use Rattle.memory.specs.Layout.{slot_of}
use Rattle.views.specs.Changes.{ended_call, ended_calls}
use Rattle.answers.specs.Answers.{written}
use Rattle.answers.proofs.Ended.{ended_next}
use Rattle.answers.proofs.end_calls.Goals as goal

pub loop-bucket-init : goal.loop-bucket-init
unfolding ended_calls
loop-bucket-init c = (omega arith, refl)

pub loop-bucket-preserved : goal.loop-bucket-preserved
loop-bucket-preserved c =
    (omega (arith, c.end_call-count.ensures.few), c.end_call-count.ensures.is ∙ ap (λ k. ended_call c.args.slots.now k (written c.loop-bucket.answers c.loop-bucket.count)) c.slot_of.ensures ∙ ap (ended_call c.args.slots.now (slot_of c.args.server c.loop-bucket.bucket)) c.loop-bucket.invariant.1 ∙ sym (ended_next c.args.slots.now c.args.server c.loop-bucket.bucket c.args.answers.now))

pub returns : goal.returns
returns c =
    let e : c.loop-bucket.bucket ≡ c.args.buckets = omega arith in
    record { is = c.loop-bucket.invariant.1 ∙ ap (λ b. ended_calls c.args.slots.now c.args.server b c.args.answers.now) e; few = omega arith }
