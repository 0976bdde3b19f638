-- The contracts of `lines` over the lent arrays, the bytes kept of the present line, the input and the output. The records are those of
-- Lines.antt and Feeding.antt.
use Rattle.std.specs.Prelude.{◌≡◌, ℕ, Option}
use Rattle.std.specs.Option.{unwrap_or}
use Rattle.model.specs.Parse.{parse}
use Rattle.parse.specs.Meaning.{parsed}
use Rattle.parse.specs.declared.Line.{Line}
use Rattle.memory.specs.Lent.{Lent, was, is}
use Rattle.views.specs.Lent.{Lents, old, new, old_answers, new_answers}
use Rattle.runs.specs.declared.Tally.{Tally}
use Rattle.progress.specs.declared.Ending.{Ending}
use Rattle.progress.specs.declared.Progress.{Progress}
use Rattle.lines.specs.declared.Read.{Read}
use Rattle.lines.specs.Sessions.{Held, held, Session, session, ended_line, held_after}
use Rattle.lines.specs.Lines.{LineRun}
use Rattle.lines.specs.Feeding.{WholeLine, NextLine, Advanced, PartFed}

-- the session before and after, with a tally, the lines read and the present line
abbrev pub old_session : Lents → Tally → ℕ → Held → Session
old_session a t n h = session (old a) (old_answers a) t n h

abbrev pub new_session : Lents → Tally → ℕ → Held → Session
new_session a t n h = session (new a) (new_answers a) t n h

abbrev pub ReadsLine : (line bytes : Lent) → (count : ℕ) → Line → Type 0
ReadsLine line bytes count r =
    (r ≡ parsed (parse (ended_line (held (was line) count) (was bytes))))
    × (held (is line) 0 ≡ held_after (held (was line) count) (was bytes))

abbrev pub ReadsWhole : (line input : Lent) → Progress → Option Read → Type 0
ReadsWhole line input p r = WholeLine (was line) (was input) p (is line) r

abbrev pub ReadsNext : (line input : Lent) → (size : ℕ) → Progress → Option Read → Type 0
ReadsNext line input size p r = NextLine (was line) (was input) size p (is line) r

abbrev pub EndsLine : Lents → (out : Lent) → Line → Progress → Ending → Type 0
EndsLine a out x p r = LineRun (old a) (old_answers a) x (new a) (new_answers a) (was out) (is out) p r

abbrev pub Advances : Lents → (line out input : Lent) → Progress → Option Progress → Type 0
Advances a line out input p r =
    Advanced
    (old_session a p.tally p.lines (held (was line) p.held))
    (was input)
    (was out)
    p
    (new_session a (unwrap_or r p).tally (unwrap_or r p).lines (held (is line) (unwrap_or r p).held))
    (is out)
    r

abbrev pub FeedsPart : Lents → (line out input : Lent) → Tally → (lines count : ℕ) → Progress → Type 0
FeedsPart a line out input t lines count r =
    PartFed
    (old_session a t lines (held (was line) count))
    (was input)
    (was out)
    (new_session a r.tally r.lines (held (is line) r.held))
    (is out)
    r.taken
    r.written
