-- One line: where its bytes lie in the input, and what it leaves at its end in the lent arrays and in the output.
use Rattle.std.specs.Prelude.{◌≡◌, List, ℕ, ◌+◌, ◌≤◌, ◌<◌, length, get_or}
use Rattle.model.specs.Parse.{parse}
use Rattle.model.specs.Print.{outcome_text}
use Rattle.parse.specs.Meaning.{parsed}
use Rattle.parse.specs.declared.Line.{Line}
use Rattle.views.specs.Memory.{Memory}
use Rattle.progress.specs.declared.Ending.{Ending}
use Rattle.progress.specs.declared.Progress.{Progress}
use Rattle.machine.specs.declared.Stepped.{Stepped}
use Rattle.runs.specs.Meaning.{outcome_in}
use Rattle.machine.specs.Meaning.{Performed}
use Rattle.output.specs.Told.{Told}
use Rattle.input.specs.Reading.{NoFeed}
use Rattle.parse_deliver.specs.Deliver.{between}
use Rattle.lines.specs.Sessions.{Session, ended_line, held_after}

-- ---- its bytes

-- the bytes from `from` to `to` have no line feed
pub record Plain (input : List ℕ) (from to : ℕ) : Type 0 where
  pub onward : from ≤ to
  pub within : to ≤ length input
  pub plain : NoFeed (between input from to)

-- the next line feed is at `to`, or there is none and `to` is the end of the input
pub record FeedAt (input : List ℕ) (from to : ℕ) : Type 0 where
  pub bytes : Plain input from to
  pub stops : to < length input → get_or input to 0 ≡ 10

-- ---- its end

-- a line that was read is performed; its outcome is in the output, under the line's number
pub record LineRun (m : Memory) (l : List ℕ) (x : Line) (m' : Memory) (l' out out' : List ℕ) (p : Progress) (r : Ending) : Type 0 where
  pub step : Stepped
  pub performs : Performed m l p.tally x m' l' step
  pub counted : r.tally ≡ step.tally
  pub told : Told (outcome_text (p.lines + 1) (outcome_in step.report l')) out p.written out' r.written

-- the present line ends after the bytes l: it is read and performed; the text is its outcome, under the line's number
pub record LineEnded (w : Session) (l : List ℕ) (w' : Session) (text : List ℕ) : Type 0 where
  pub told : Stepped
  pub performs : Performed w.memory w.answers w.tally (parsed (parse (ended_line w.held l))) w'.memory w'.answers told
  pub counted : w'.tally ≡ told.tally
  pub next : w'.lines ≡ w.lines + 1
  pub clear : w'.held ≡ held_after w.held l
  pub printed : text ≡ outcome_text (w.lines + 1) (outcome_in told.report w'.answers)

-- a line at its end, with its text in the output from `at` on
pub record LineTold (w : Session) (l : List ℕ) (w' : Session) (out : List ℕ) (at : ℕ) (out' : List ℕ) (written : ℕ) : Type 0 where
  pub text : List ℕ
  pub ends : LineEnded w l w' text
  pub told : Told text out at out' written
