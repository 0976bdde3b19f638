-- The calls of a bucket have one order: of every history of which the facts hold, whatever the quorums and the contents are.
use mathlib.Core.Path.{refl}
use native.Mathlib.Omega.{arith}
use Rattle.history.specs.History.{Contents, Quorums, History, Chosen, first, Facts}
use Rattle.history.specs.Ordering.{Ordering}
use Rattle.history.proofs.Descent.{chosen_holds, descent}
use Rattle.history.proofs.Sequence.{greatest}
use Rattle.history.proofs.Places.{bound, bound_above, reached_at, reached_chosen}
use Rattle.history.proofs.Order.{ordered_to}

-- the order up to the greatest version at which a call was answered
pub one_order : (Q : Quorums) {M : Contents} (h : History M) → Facts Q h → Ordering M h.calls
one_order Q h f =
    let (x, chosen, most) = greatest (reached_at h f) (Chosen Q h) (first refl) (reached_chosen h f) (bound h.calls) in
    let (t, held) = chosen_holds h f chosen in
    ordered_to h f (descent h f (first refl) held (omega arith)) held
    (λ c m line r d v e q. descent h f (reached_chosen h f c.number v e) held (most c.number (bound_above h.calls c m) v e))
