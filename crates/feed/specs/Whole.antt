-- A whole script through the public calls: any calls of `feed_value`, one after the other, each with an output of any size, and then `finish_value`.
use Rattle.std.specs.Prelude.{◌≡◌, List, [], ◌++◌, ℕ, take, replicate}
use Rattle.model.specs.Lines.{initial_state}
use Rattle.model.specs.Run.{lines_of, state_after, run}
use Rattle.views.specs.Memory.{memory}
use Rattle.runs.specs.declared.Tally.{Tally}
use Rattle.lines.specs.Sessions.{Session, reading_in}
use Rattle.feed.specs.Entry.{session_in, SessionFed}

-- ---- the start of a script: zeros in `counts`, `reader` and the tally

abbrev pub no_tally : Tally
no_tally = record { sent = 0; copied = 0; delivered = 0; lost = 0; flight = 0 }

-- whatever the other arrays hold
abbrev pub zeros : (heads slots copies working texts queue payloads answers line : List ℕ) → Session
zeros heads slots copies working texts queue payloads answers line =
    session_in (memory (replicate 8 0) heads slots copies working texts queue payloads) answers (replicate 3 0) line no_tally

-- ---- the calls

-- calls of `feed_value`, one after the other: the bytes taken so far, and the bytes written
pub data Calls (w : Session) : List ℕ → List ℕ → Session → Type 0 where
  begins : Calls w [] [] w
  feeds : {script text : List ℕ} {v : Session} → Calls w script text v → (input out : List ℕ) (u : Session) (out' : List ℕ) (taken written : ℕ)
      → SessionFed v input out u out' taken written → Calls w (script ++ take taken input) (text ++ take written out') u

-- what is printed, and the state and the tally
pub record Whole (script text : List ℕ) (u : Session) : Type 0 where
  pub prints : text ≡ run script
  pub leaves : (reading_in u).state ≡ state_after initial_state (lines_of script)
