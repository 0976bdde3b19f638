-- A whole script: one line, a list of lines, and an input of bytes with what is printed for it.
use Rattle.std.specs.Prelude.{List, [], ◌∷◌, ◌++◌, reverse, true, false, ℕ, ◌+◌, eqb, take}
use Rattle.std.proofs.Math.Option.{none, some}
use Rattle.model.specs.Measures.{max_lines, max_election}
use Rattle.model.specs.Lines.{State, initial_state, Outcome, LineResult, refusal, perform_up_to}
use Rattle.model.specs.Parse.{parse}
use Rattle.model.specs.Print.{outcome_text, tally_text}

-- one line, where no election number is above `top`
unfoldable pub step_up_to : ℕ → State → List ℕ → LineResult
step_up_to top s l = elim (parse l) [ none ↦ record { state = s; outcome = refusal 1 } | some x ↦ perform_up_to top s x ]

-- a list of lines: the state that they leave, and what each of them gives
unfoldable pub state_after_up_to : ℕ → State → List (List ℕ) → State
state_after_up_to top s [] = s
state_after_up_to top s (l ∷ ls) = state_after_up_to top (step_up_to top s l).state ls

unfoldable pub outcomes_up_to : ℕ → State → List (List ℕ) → List Outcome
outcomes_up_to top s [] = []
outcomes_up_to top s (l ∷ ls) = (step_up_to top s l).outcome ∷ outcomes_up_to top (step_up_to top s l).state ls

-- the bench's own greatest election number
abbrev pub step : State → List ℕ → LineResult
step = step_up_to max_election

abbrev pub state_after : State → List (List ℕ) → State
state_after = state_after_up_to max_election

abbrev pub outcomes : State → List (List ℕ) → List Outcome
outcomes = outcomes_up_to max_election

-- ---- an input of bytes

-- bytes before a line feed are a line; what follows the last line feed is one only if it is not empty. `w` is what has
-- been read of the present line, its last byte first
unfoldable pub last_line : List ℕ → List (List ℕ)
last_line [] = []
last_line (b ∷ w) = reverse (b ∷ w) ∷ []

unfoldable pub lines_from : List ℕ → List ℕ → List (List ℕ)
lines_from w [] = last_line w
lines_from w (b ∷ l) = elim (eqb b 10) [ true ↦ reverse w ∷ lines_from [] l | false ↦ lines_from (b ∷ w) l ]

-- nothing after line 4,294,967,295 is read
unfoldable pub lines_of : List ℕ → List (List ℕ)
lines_of input = take max_lines (lines_from [] input)

-- what lines numbered from `number` on print, and then the tally
unfoldable pub printed_from : ℕ → State → List (List ℕ) → List ℕ
printed_from number s [] = tally_text s.tally
printed_from number s (l ∷ ls) =
    let x = step s l in
    outcome_text number x.outcome ++ printed_from (number + 1) x.state ls

unfoldable pub run : List ℕ → List ℕ
run input = printed_from 1 initial_state (lines_of input)
