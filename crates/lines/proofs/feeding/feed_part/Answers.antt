-- `feeding::feed_part` meets its contract: the steps, one after the other, then the rest.
use mathlib.Core.Path.{refl, ap}
use native.Mathlib.Omega.{arith}
use Rattle.views.proofs.Lent.{same_on}
use Rattle.lines.proofs.Advancing.{going_starts, going_on, is_none, going_ends}
use Rattle.lines.proofs.feeding.feed_part.Goals as goal

pub loop-after-init : goal.loop-after-init
loop-after-init c = record { same = record { counts = refl; heads = refl; slots = refl; copies = refl; working = refl; texts = refl; queue = refl; payloads = refl; answers = refl }; going = going_starts _ _ _ _ _ _ _ _ _ c.begun-progress.ensures }

pub advance-requires : goal.advance-requires
advance-requires c = (c.loop-after.invariant.going.within, omega (arith, c.loop-after.invariant.going.room, c.loop-after.invariant.going.size))

pub loop-after-smaller : goal.loop-after-smaller
loop-after-smaller c = omega (arith, c.in-Some.ensures.advances.goes refl, c.in-Some.ensures.advances.within)

pub loop-after-preserved : goal.loop-after-preserved
loop-after-preserved c =
    record { same = same_on c.loop-after.invariant.same c.in-Some.ensures.same; going = going_on _ _ _ _ _ _ _ _ _ c.loop-after.invariant.going c.in-Some.ensures.advances }

pub keep_rest-requires : goal.keep_rest-requires
keep_rest-requires c = c.loop-after.invariant.going.within

pub returns-clause-feeds : goal.returns-clause-feeds
returns-clause-feeds c =
    going_ends _ _ _ _ _ _ _ _ _ _ _ _ _ _ _ _ _ _ (ap (λ x. x.tally) c.begun-progress.ensures) c.loop-after.invariant.going (is_none _ c.in_default.not-Some) c.advance.ensures.advances c.keep_rest.ensures
