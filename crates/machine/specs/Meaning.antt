-- What a line does to the state that memory and tally stand for: the definition's step.
use Rattle.std.specs.Prelude.{◌≡◌, ℕ, List}
use Rattle.views.specs.Memory.{Memory}
use Rattle.parse.specs.declared.Line.{Line}
use Rattle.parse.specs.Meaning.{line_in}
use Rattle.runs.specs.declared.Tally.{Tally}
use Rattle.runs.specs.Meaning.{state_in, Bounded, tally_in, tally_after, performed, outcome_in}
use Rattle.machine.specs.declared.Stepped.{Stepped}
use Rattle.machine.specs.Steps.{RanLine}

-- a line: every word and byte that it leaves, the tally, and, for every state within the measures, the definition's step,
-- which leaves such a state
pub record Performed (m : Memory) (l : List ℕ) (t : Tally) (x : Line) (m' : Memory) (l' : List ℕ) (r : Stepped) : Type 0 where
  pub leaves : RanLine m l x m' l' r.report
  pub tally : r.tally ≡ tally_after t r.report
  pub means : Bounded m (tally_in t)
      → performed (state_in m (tally_in t)) (line_in x) ≡ record { state = state_in m' (tally_in r.tally); outcome = outcome_in r.report l' }
  pub bounded : Bounded m (tally_in t) → Bounded m' (tally_in r.tally)
