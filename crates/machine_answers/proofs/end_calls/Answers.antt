-- `machine_answers::end_calls` meets its contract: slot by slot.
use mathlib.Core.Path.{◌≡◌, refl, ap, ◌∙◌}
use native.Mathlib.Omega.{arith}
use Rattle.memory_regions.specs.Regions.{regions}
use Rattle.views.specs.Changes.{ended_calls}
use Rattle.machine_answers.proofs.Ended.{ended_next}
use Rattle.machine_answers.proofs.end_calls.Goals as goal

pub loop-bucket-init : goal.loop-bucket-init
unfolding ended_calls
loop-bucket-init c = (omega arith, refl)

pub loop-bucket-preserved : goal.loop-bucket-preserved
loop-bucket-preserved c =
    let slots = (regions c.args.words.now).slots in
    (omega (arith, c.end_call-count.ensures.few), rw (ended_next slots c.args.server c.loop-bucket.bucket c.args.answers.now, ← c.loop-bucket.invariant.1, ← c.slot_of.ensures) c.end_call-count.ensures.is)

pub returns : goal.returns
returns c =
    let e : c.loop-bucket.bucket ≡ c.args.buckets = omega arith in
    record { is = c.loop-bucket.invariant.1 ∙ ap (λ b. ended_calls (regions c.args.words.now).slots c.args.server b c.args.answers.now) e; few = omega arith }
