-- Demand 3, said of the bytes that the public calls write. This file joins two statements and has nothing new in it: what is written
-- is the text of the outcomes of certain lines, and of these very lines each bucket has one order of its calls (`OneOrder`, in
-- crates/consistency/specs/Statement.antt). Theorems: `calls_in_order` and `script_in_order` in proofs/Theorem.antt.
use Rattle.std.specs.Prelude.{◌≡◌, List, ◌++◌, ℕ, ◌≤◌, length, take}
use Rattle.model.specs.Lines.{initial_state}
use Rattle.model.specs.Print.{tally_text}
use Rattle.model.specs.Run.{lines_of, outcomes, state_after}
use Rattle.limits.specs.Prints.{outcome_texts}
use Rattle.consistency.specs.Statement.{begins, ends, OneOrder}
use Rattle.input.specs.Reading.{complete_lines}
use Rattle.lines.specs.Sessions.{Session}
use Rattle.feed.specs.Entry.{finish_room, Finished}
use Rattle.feed.specs.Whole.{zeros, Calls}

-- text that is printed for lines, counted from 1, whose calls have one order in each bucket
pub record PrintedInOrder (lines : List (List ℕ)) (text : List ℕ) : Type 0 where
  pub prints : text ≡ outcome_texts 1 (outcomes initial_state lines)
  pub orders : (b : ℕ) → OneOrder (begins lines) (ends lines) b

-- with the tally after it
pub record EndedInOrder (lines : List (List ℕ)) (text : List ℕ) : Type 0 where
  pub prints : text ≡ outcome_texts 1 (outcomes initial_state lines) ++ tally_text (state_after initial_state lines).tally
  pub orders : (b : ℕ) → OneOrder (begins lines) (ends lines) b

-- any calls of `feed_value` from the start of a script on: what they wrote is the text of the complete lines among the bytes taken
abbrev pub CallsInOrder : Type 0
CallsInOrder =
    (heads slots copies working texts queue payloads answers line : List ℕ) (script text : List ℕ) (v : Session)
    → Calls (zeros heads slots copies working texts queue payloads answers line) script text v → PrintedInOrder (complete_lines script) text

-- and then `finish_value`, with room for what it prints: all lines, the last one without a line feed too, and the tally
abbrev pub ScriptInOrder : Type 0
ScriptInOrder =
    (heads slots copies working texts queue payloads answers line : List ℕ) (script text : List ℕ) (v : Session)
    → Calls (zeros heads slots copies working texts queue payloads answers line) script text v
    → (out : List ℕ) (u : Session) (out' : List ℕ) (r : ℕ) → finish_room ≤ length out → Finished v out u out' r
    → EndedInOrder (lines_of script) (text ++ take r out')
