-- What feeding a part of an input leaves in the lent arrays, byte by byte and line by line, and what that stands for.
use Rattle.std.specs.Prelude.{◌≡◌, Bool, true, false, List, [], ◌∷◌, ◌++◌, ℕ, ◌+◌, ◌-◌, ◌≤◌, ◌<◌, length, take, drop, get_or, Option, Some, None, is_some}
use Rattle.std.specs.Option.{unwrap_or}
use Rattle.model.specs.Measures.{max_lines}
use Rattle.model.specs.Parse.{parse}
use Rattle.parse.specs.Meaning.{parsed}
use Rattle.print.specs.Printed.{Printed}
use Rattle.input.specs.Reading.{NoFeed}
use Rattle.lines.specs.Sessions.{held, put_all, Session, keeping, ended_line, held_after}
use Rattle.parse_deliver.specs.Deliver.{between}
use Rattle.lines.specs.Lines.{Plain, FeedAt, LineEnded}
use Rattle.lines.specs.declared.Read.{Read}
use Rattle.progress.specs.declared.Progress.{Progress}
use Rattle.progress.specs.Progress.{waiting_at, passed_at}
use Rattle.print.specs.Room.{line_room}

-- ---- a part of the input

-- the lines that end in the input are run, one after the other, as long as an output with `room` bytes has room for what they print: from
-- w to v, with this text. Each has bytes l in this part, before its line feed
pub data LinesFed (w : Session) (room : ℕ) : List ℕ → List ℕ → Session → Type 0 where
  nothing : LinesFed w room [] [] w
  line : {input text : List ℕ} {v : Session} → LinesFed w room input text v → v.lines < max_lines → length text + line_room ≤ room → (l : List ℕ) → NoFeed l → (u : Session) (more : List ℕ) → LineEnded v l u more → LinesFed w room (input ++ (l ++ (10 ∷ []))) (text ++ more) u

-- and the bytes after them are kept; nothing after line 4,294,967,295 is read
pub data Fed (w : Session) (room : ℕ) : List ℕ → List ℕ → Session → Type 0 where
  bytes : {input text : List ℕ} {v : Session} → LinesFed w room input text v → v.lines < max_lines → (l : List ℕ) → NoFeed l → Fed w room (input ++ l) text (keeping v l)
  past : {input text : List ℕ} {v : Session} → LinesFed w room input text v → max_lines ≤ v.lines → (l : List ℕ) → Fed w room (input ++ l) text v

-- bytes are left only from a line feed on, where the output has no room for a line
pub record Stops (w' : Session) (input out : List ℕ) (taken written : ℕ) : Type 0 where
  pub feed : get_or input taken 0 ≡ 10
  pub short : length out < written + line_room
  pub early : w'.lines < max_lines

-- the first `taken` bytes of the input are fed; the text is at the start of the output, whose other bytes stay
pub record PartFed (w : Session) (input out : List ℕ) (w' : Session) (out' : List ℕ) (taken written : ℕ) : Type 0 where
  pub text : List ℕ
  pub feeds : Fed w (length out) (take taken input) text w'
  pub wrote : out' ≡ text ++ drop (length text) out
  pub count : written ≡ length text
  pub within : taken ≤ length input
  pub stops : taken < length input → Stops w' input out taken written

-- ---- parts of it

-- the next line where it ends in the part, read as a line of its bytes
pub data WholeLine (line input : List ℕ) (p : Progress) (line' : List ℕ) (r : Option Read) : Type 0 where
  whole : (x : Read) (feed : ℕ) → r ≡ Some x → FeedAt input p.taken feed → feed < length input → x.next ≡ feed + 1 → x.line ≡ parsed (parse (ended_line (held line p.held) (between input p.taken feed))) → held line' 0 ≡ held_after (held line p.held) (between input p.taken feed) → WholeLine line input p line' r
  unended : r ≡ None → line' ≡ line → Plain input p.taken (length input) → WholeLine line input p line' r

-- one more line may be run
pub record MayRun (size : ℕ) (p : Progress) (r : Bool) : Type 0 where
  pub may : r ≡ true → (p.lines < max_lines) × (p.written + line_room ≤ size)
  pub may_not : r ≡ false → p.lines < max_lines → size < p.written + line_room

-- the next line, where it may be run
pub data NextLine (line input : List ℕ) (size : ℕ) (p : Progress) (line' : List ℕ) (r : Option Read) : Type 0 where
  found : p.lines < max_lines → p.written + line_room ≤ size → WholeLine line input p line' r → NextLine line input size p line' r
  full : (p.lines < max_lines → size < p.written + line_room) → r ≡ None → line' ≡ line → NextLine line input size p line' r

-- one step of feeding: a line, or nothing (r is none, and the progress stays) where no line that ends in the part can be run
pub record Advanced (w : Session) (input out : List ℕ) (p : Progress) (w' : Session) (out' : List ℕ) (r : Option Progress) : Type 0 where
  pub bytes : List ℕ
  pub text : List ℕ
  pub feeds : LinesFed w (length out - p.written) bytes text w'
  pub read : take (unwrap_or r p).taken input ≡ take p.taken input ++ bytes
  pub printed : Printed text out p.written out' (unwrap_or r p).written
  pub within : (unwrap_or r p).taken ≤ length input
  pub room : (unwrap_or r p).written ≤ length out
  pub goes : is_some r ≡ true → p.taken < (unwrap_or r p).taken
  pub rests : r ≡ None → p.lines < max_lines → p.written + line_room ≤ length out → Plain input p.taken (length input)

-- the bytes after the lines that were run: those up to a line feed are kept in the array of the present line, or all are passed over
pub data RestKept (p : Progress) (line input : List ℕ) (p' : Progress) (line' : List ℕ) : Type 0 where
  waits : (n feed : ℕ) → p.lines < max_lines → FeedAt input p.taken feed → held line' n ≡ put_all (held line p.held) (between input p.taken feed) → p' ≡ waiting_at p n feed → RestKept p line input p' line'
  passes : max_lines ≤ p.lines → line' ≡ line → p' ≡ passed_at p (length input) → RestKept p line input p' line'
