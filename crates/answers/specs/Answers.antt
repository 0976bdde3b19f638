-- What writing answers leaves in their array.
use Rattle.std.specs.Prelude.{◌≡◌, List, ℕ, ◌+◌, ◌≤◌}
use Rattle.model.specs.Measures.{most_answers}
use Rattle.views.specs.Changes.{Written, ended_call}

abbrev pub written : List ℕ → ℕ → Written
written l count = record { answers = l; count = count }

-- the answers that were written, and how many
pub record Listed (w : Written) (answers : List ℕ) (r : ℕ) : Type 0 where
  pub is : written answers r ≡ w
  pub few : r ≤ most_answers

pub record EndedCall (slots : List ℕ) (k : ℕ) (answers : List ℕ) (count : ℕ) (answers' : List ℕ) (r : ℕ) : Type 0 where
  pub is : written answers' r ≡ ended_call slots k (written answers count)
  pub few : r ≤ count + 1
