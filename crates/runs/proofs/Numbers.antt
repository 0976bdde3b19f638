-- A refusal is told by its number.
use Rattle.std.specs.Prelude.{◌≡◌, List, ℕ, Result, Ok, Err}
use mathlib.Core.Path.{refl}
use Rattle.refusals.specs.declared.Refusal.{Refusal}
use Rattle.refusals.specs.Refusals.{number}
use Rattle.runs.specs.declared.Report.{Report}
use Rattle.runs.specs.Meaning.{outcome_by, outcome_in}

-- what is told of a line by the number of its refusal is what the line tells
pub outcome_numbered : (q : Result Report Refusal) (l : List ℕ) → outcome_by number q l ≡ outcome_in q l
unfolding outcome_by outcome_in
outcome_numbered (Ok r) l = refl
outcome_numbered (Err e) l = refl
