-- What the public calls leave, over all the lent arrays. `reader` has three words: the lines read, the bytes held of the present line, and
-- how many bytes the last call wrote. Zeros in `counts` and in these words, with a tally of zeros, stand for the start (`zeros_start` of
-- proofs/Starting.antt).
use Rattle.std.specs.Prelude.{◌≡◌, List, ◌++◌, ℕ, ◌+◌, ◌≤◌, ◌<◌, length, take, drop, get_or}
use Rattle.model.specs.Print.{tally_text}
use Rattle.views.specs.Memory.{Memory, memory}
use Rattle.runs.specs.declared.Tally.{Tally}
use Rattle.runs.specs.Meaning.{Bounded, tally_in}
use Rattle.input.specs.Reading.{fed, fed_text, finished, finished_text}
use Rattle.print.specs.Room.{line_room, tally_room}
use Rattle.progress.specs.Progress.{last_feed}
use Rattle.lines.specs.Sessions.{held, Session, session, reading_in}
use Rattle.lines.specs.Feeding.{Fed, PartFed}

abbrev pub session_in : Memory → (answers reader line : List ℕ) → Tally → Session
session_in m answers reader line t = session m answers t (get_or reader 0 0) (held line (get_or reader 1 0))

-- within the measures, and where a cluster stands the order of the messages names no place twice
abbrev pub MeasuredIn : Session → Type 0
MeasuredIn w = Bounded w.memory (tally_in w.tally)

-- ---- a part of the input

-- what the bytes taken of a part stand for; a state within the measures is left so
pub record PartMeans (w : Session) (input : List ℕ) (w' : Session) (text : List ℕ) : Type 0 where
  pub reads : fed (reading_in w) input ≡ reading_in w'
  pub prints : fed_text (reading_in w) input ≡ text
  pub measured : MeasuredIn w'

pub record SessionFed (w : Session) (input out : List ℕ) (w' : Session) (out' : List ℕ) (taken written : ℕ) : Type 0 where
  pub leaves : PartFed w input out w' out' taken written
  pub means : MeasuredIn w → PartMeans w (take taken input) w' leaves.text

-- t and t': the tally before and after
abbrev pub Feeds : (counts heads slots copies working texts queue payloads answers reader line : List ℕ) → Tally → (input out : List ℕ) → (counts' heads' slots' copies' working' texts' queue' payloads' answers' reader' line' : List ℕ) → Tally → (out' : List ℕ) (taken : ℕ) → Type 0
Feeds counts heads slots copies working texts queue payloads answers reader line t input out counts' heads' slots' copies' working' texts' queue' payloads' answers' reader' line' t' out' taken =
    SessionFed
    (session_in (memory counts heads slots copies working texts queue payloads) answers reader line t)
    input
    out
    (session_in (memory counts' heads' slots' copies' working' texts' queue' payloads') answers' reader' line' t')
    out'
    taken
    (get_or reader' 2 0)

-- ---- the end of the input

-- room for what a line and the tally can print
abbrev pub finish_room : ℕ
finish_room = line_room + tally_room

-- the last line is fed its line feed, then the tally is printed
pub record SessionFinished (w : Session) (out : List ℕ) (w' : Session) (out' : List ℕ) (r : ℕ) : Type 0 where
  pub text : List ℕ
  pub ends : Fed w line_room (last_feed w.held.count) text w'
  pub wrote : out' ≡ (text ++ tally_text (tally_in w'.tally)) ++ drop (length (text ++ tally_text (tally_in w'.tally))) out
  pub count : r ≡ length (text ++ tally_text (tally_in w'.tally))

-- without room nothing happens, and 0 is answered
pub record Waits (w : Session) (out : List ℕ) (w' : Session) (out' : List ℕ) (r : ℕ) : Type 0 where
  pub same : w' ≡ w
  pub kept : out' ≡ out
  pub zero : r ≡ 0

pub record FinishMeans (w : Session) (out : List ℕ) (w' : Session) (out' : List ℕ) (r : ℕ) : Type 0 where
  pub reads : finished (reading_in w) ≡ reading_in w'
  pub wrote : out' ≡ finished_text (reading_in w) ++ drop (length (finished_text (reading_in w))) out
  pub count : r ≡ length (finished_text (reading_in w))
  pub measured : MeasuredIn w'

pub record Finished (w : Session) (out : List ℕ) (w' : Session) (out' : List ℕ) (r : ℕ) : Type 0 where
  pub waits : length out < finish_room → Waits w out w' out' r
  pub leaves : finish_room ≤ length out → SessionFinished w out w' out' r
  pub means : finish_room ≤ length out → MeasuredIn w → FinishMeans w out w' out' r

-- the words of the reader: as they were where nothing happens, else with what was written
pub record Finishes (counts heads slots copies working texts queue payloads answers reader line : List ℕ) (t : Tally) (out : List ℕ) (counts' heads' slots' copies' working' texts' queue' payloads' answers' reader' line' : List ℕ) (t' : Tally) (out' : List ℕ) (r : ℕ) : Type 0 where
  pub does : Finished
      (session_in (memory counts heads slots copies working texts queue payloads) answers reader line t)
      out
      (session_in (memory counts' heads' slots' copies' working' texts' queue' payloads') answers' reader' line' t')
      out'
      r
  pub rests : length out < finish_room → reader' ≡ reader
  pub wrote : finish_room ≤ length out → get_or reader' 2 0 ≡ r
