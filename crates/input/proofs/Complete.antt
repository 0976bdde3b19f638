-- What has been printed before the end of an input is the text of its complete lines, and the state is theirs.
use mathlib.Core.Path.{◌≡◌, refl, ap}
use mathlib.Core.List.{List, [], ◌∷◌, ◌++◌, reverse}
use mathlib.Core.Bool.{Bool, true, false}
use Prim.Native.Nat.{ℕ, suc, ◌≤◌, ◌<◌}
use lib.Dec.{eqb}
use lib.ListN.{take}
use Rattle.model.specs.Measures.{max_lines}
use Rattle.model.specs.Lines.{initial_state}
use Rattle.model.specs.Print.{tally_text}
use Rattle.model.specs.Run.{state_after, state_after_up_to, last_line, lines_from, lines_of, printed_from}
use Rattle.input.specs.Reading.{Reading, start, kept_all, fed, fed_text, complete_from, complete_lines}
use Rattle.input.proofs.Whole.{Agrees, Ending, agrees_from_start}

so_far_past : (r : Reading) → max_lines ≤ r.lines → Agrees r [] (tally_text r.state.tally) r.state
unfolding printed_from state_after_up_to
so_far_past r h = record { printed = refl; reached = refl }

so_far_end : (r : Reading) (n : ℕ) (w : List ℕ) → r.lines < max_lines → r.line ≡ kept_all [] (reverse w) → Agrees r (take (suc n) (complete_from w [])) (tally_text r.state.tally) r.state
unfolding complete_from printed_from state_after_up_to
so_far_end r n w h k = record { printed = refl; reached = refl }

so_far_feed : (w : List ℕ) (b : ℕ) (l : List ℕ) → eqb b 10 ≡ true → complete_from w (b ∷ l) ≡ reverse w ∷ complete_from [] l
unfolding complete_from
so_far_feed w b l e = rw (complete_from, e)

so_far_byte : (w : List ℕ) (b : ℕ) (l : List ℕ) → eqb b 10 ≡ false → complete_from w (b ∷ l) ≡ complete_from (b ∷ w) l
unfolding complete_from
so_far_byte w b l e = rw (complete_from, e)

abbrev so_far : Ending
so_far = record { lines = complete_from; text = λ r. tally_text r.state.tally; state = λ r. r.state; at_feed = so_far_feed; at_byte = so_far_byte; past = so_far_past; at_end = so_far_end }

-- with the tally of that state after it
pub printed_so_far : (input : List ℕ) → fed_text start input ++ tally_text (fed start input).state.tally ≡ printed_from 1 initial_state (complete_lines input)
unfolding complete_lines
printed_so_far input = (agrees_from_start so_far input).printed

pub state_so_far : (input : List ℕ) → (fed start input).state ≡ state_after initial_state (complete_lines input)
unfolding complete_lines
state_so_far input = (agrees_from_start so_far input).reached

-- ---- all lines of an input that ends with a line feed are complete

complete_with_feed : (w input : List ℕ) → complete_from w (input ++ (10 ∷ [])) ≡ lines_from w (input ++ (10 ∷ []))
unfolding complete_from lines_from last_line
complete_with_feed w [] = refl
complete_with_feed w (b ∷ l) = go (eqb b 10) refl (complete_with_feed [] l) (complete_with_feed (b ∷ w) l)
  where
    go : (t : Bool) → eqb b 10 ≡ t → complete_from [] (l ++ (10 ∷ [])) ≡ lines_from [] (l ++ (10 ∷ [])) → complete_from (b ∷ w) (l ++ (10 ∷ [])) ≡ lines_from (b ∷ w) (l ++ (10 ∷ [])) → complete_from w ((b ∷ l) ++ (10 ∷ [])) ≡ lines_from w ((b ∷ l) ++ (10 ∷ []))
    go true e f g = rw (complete_from, lines_from, e) (ap (λ (ls : List (List ℕ)). reverse w ∷ ls) f)
    go false e f g = rw (complete_from, lines_from, e) g

pub all_complete : (input : List ℕ) → complete_lines (input ++ (10 ∷ [])) ≡ lines_of (input ++ (10 ∷ []))
unfolding complete_lines lines_of
all_complete input = ap (take max_lines) (complete_with_feed [] input)
