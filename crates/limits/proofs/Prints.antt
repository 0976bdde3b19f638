-- What a whole input prints is the text of each line's outcome, then the tally. So what is shown of outcomes is shown of the
-- printed bytes.
use mathlib.Core.Path.{◌≡◌, refl, ap}
use mathlib.Core.List.{List, [], ◌∷◌, ◌++◌, append_assoc}
use Prim.Native.Nat.{ℕ, ◌+◌}
use Rattle.model.specs.Lines.{State, initial_state}
use Rattle.model.specs.Print.{outcome_text, tally_text}
use Rattle.model.specs.Run.{step, state_after, state_after_up_to, outcomes, outcomes_up_to, lines_of, printed_from, run}
use Rattle.limits.specs.Prints.{outcome_texts}

pub printed_outcomes : (number : ℕ) (s : State) (ls : List (List ℕ)) → printed_from number s ls ≡ outcome_texts number (outcomes s ls) ++ tally_text (state_after s ls).tally
unfolding printed_from outcome_texts outcomes_up_to state_after_up_to
printed_outcomes number s [] = refl
printed_outcomes number s (l ∷ ls) =
    rw append_assoc (ap (λ r. outcome_text number (step s l).outcome ++ r) (printed_outcomes (number + 1) (step s l).state ls))

pub run_prints : (input : List ℕ) → run input ≡ outcome_texts 1 (outcomes initial_state (lines_of input)) ++ tally_text (state_after initial_state (lines_of input)).tally
unfolding run
run_prints input = printed_outcomes 1 initial_state (lines_of input)
