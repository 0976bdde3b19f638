-- The numbers that lines are refused with, and that the lowest that applies wins.
use Rattle.std.specs.Prelude.{◌≡◌, List, true, ℕ, ◌≤◌, ◌<◌}
use Rattle.model.specs.Lines.{Condition}
use Rattle.limits.specs.Lists.{All}

-- the numbers that a script line is refused with: none from 13 to 17, of which 13 to 15 belong to calls on bytes
pub record RefusalNumber (r : ℕ) : Type 0 where
  pub top : r ≤ 18
  pub between : 12 < r → 18 ≤ r

-- the number r is one of those, from `low` on, and no condition that applies has a lower one
pub record Lowest (low r : ℕ) (l : List Condition) : Type 0 where
  pub from : low ≤ r
  pub to : RefusalNumber r
  pub least : All (λ x. x.applies ≡ true → r ≤ x.number) l
