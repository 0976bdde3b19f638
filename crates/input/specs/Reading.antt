-- An input of bytes that arrives in parts: what is kept between them, and what each of them prints.
use Rattle.std.specs.Prelude.{true, false, ◌≡◌, List, [], ◌∷◌, ◌++◌, reverse, ℕ, ◌+◌, eqb, ltb, leb, length, take}
use Rattle.model.specs.Measures.{max_lines, max_line_bytes}
use Rattle.model.specs.Lines.{State, initial_state}
use Rattle.model.specs.Run.{step}
use Rattle.model.specs.Print.{outcome_text, tally_text}

-- what is kept: the state, how many lines were read, and the bytes read of the present line
pub record Reading : Type 0 where
  pub state : State
  pub lines : ℕ
  pub line : List ℕ

abbrev pub reading : State → ℕ → List ℕ → Reading
reading s n l = record { state = s; lines = n; line = l }

abbrev pub start : Reading
start = reading initial_state 0 []

-- one more byte of the present line; one past the greatest length is enough to refuse it, and what follows is not kept
unfoldable pub kept : List ℕ → ℕ → List ℕ
kept l b = elim (leb (length l) max_line_bytes) [ true ↦ l ++ (b ∷ []) | false ↦ l ]

unfoldable pub kept_all : List ℕ → List ℕ → List ℕ
kept_all l [] = l
kept_all l (b ∷ m) = kept_all (kept l b) m

-- bytes among which there is no line feed
abbrev pub NoFeed : List ℕ → Type 0
NoFeed [] = Unit {0}
NoFeed (b ∷ l) = (eqb b 10 ≡ false) × NoFeed l

-- the present line is at its end
abbrev pub ended : Reading → Reading
ended r = reading (step r.state r.line).state (r.lines + 1) []

abbrev pub ended_text : Reading → List ℕ
ended_text r = outcome_text (r.lines + 1) (step r.state r.line).outcome

-- one byte, where a line feed ends a line; nothing after line 4,294,967,295 is read
unfoldable pub byte_read : Reading → ℕ → Reading
byte_read r b =
    elim (ltb r.lines max_lines) [
      | false ↦ r
      | true ↦ elim (eqb b 10) [ true ↦ ended r | false ↦ reading r.state r.lines (kept r.line b) ]
    ]

unfoldable pub byte_text : Reading → ℕ → List ℕ
byte_text r b =
    elim (ltb r.lines max_lines) [ false ↦ [] | true ↦ elim (eqb b 10) [ true ↦ ended_text r | false ↦ [] ] ]

-- a part of the input: what is kept after it, and what it prints
unfoldable pub fed : Reading → List ℕ → Reading
fed r [] = r
fed r (b ∷ l) = fed (byte_read r b) l

unfoldable pub fed_text : Reading → List ℕ → List ℕ
fed_text r [] = []
fed_text r (b ∷ l) = byte_text r b ++ fed_text (byte_read r b) l

-- an input in parts, one after the other
unfoldable pub fed_parts : Reading → List (List ℕ) → Reading
fed_parts r [] = r
fed_parts r (l ∷ ls) = fed_parts (fed r l) ls

unfoldable pub fed_parts_text : Reading → List (List ℕ) → List ℕ
fed_parts_text r [] = []
fed_parts_text r (l ∷ ls) = fed_text r l ++ fed_parts_text (fed r l) ls

-- the end of the input: what follows the last line feed is a line only if it is not empty
unfoldable pub last_read : Reading → List ℕ → Reading
last_read r [] = r
last_read r (b ∷ l) = elim (ltb r.lines max_lines) [ false ↦ r | true ↦ ended r ]

unfoldable pub last_text : Reading → List ℕ → List ℕ
last_text r [] = []
last_text r (b ∷ l) = elim (ltb r.lines max_lines) [ false ↦ [] | true ↦ ended_text r ]

unfoldable pub finished : Reading → Reading
finished r = last_read r r.line

unfoldable pub finished_text : Reading → List ℕ
finished_text r = last_text r r.line ++ tally_text (finished r).state.tally

-- ---- complete lines

-- the bytes before each line feed; what follows the last one is no line yet, other than in `lines_from` (crates/model/specs/Run.antt).
-- `w` is what has been read of the present line, its last byte first
unfoldable pub complete_from : List ℕ → List ℕ → List (List ℕ)
complete_from w [] = []
complete_from w (b ∷ l) = elim (eqb b 10) [ true ↦ reverse w ∷ complete_from [] l | false ↦ complete_from (b ∷ w) l ]

-- nothing after line 4,294,967,295 is read
unfoldable pub complete_lines : List ℕ → List (List ℕ)
complete_lines input = take max_lines (complete_from [] input)
