-- What ends a last line.
use mathlib.Core.Path.{◌≡◌, refl}
use mathlib.Core.List.{[], ◌∷◌}
use Prim.Native.Nat.{ℕ, ◌≤◌}
use native.Mathlib.Omega.{arith}
use borrow.Author.Tests.{ne_eqb}
use Rattle.progress.specs.Progress.{last_feed}

pub feeds_none : last_feed 0 ≡ []
unfolding last_feed
feeds_none = refl

pub feeds_one : (n : ℕ) → 1 ≤ n → last_feed n ≡ 10 ∷ []
unfolding last_feed
feeds_one n h = rw (last_feed, ne_eqb n 0 (λ e. omega arith))
