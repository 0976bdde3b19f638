-- What is kept between the parts of an input as it stands in the lent arrays, and what it stands for.
use Rattle.std.specs.Prelude.{true, false, List, [], ◌∷◌, ℕ, ◌+◌, eqb, ltb, take, set}
use Rattle.views.specs.Memory.{Memory}
use Rattle.runs.specs.Meaning.{state_in}
use Rattle.runs.specs.declared.Tally.{Tally}
use Rattle.runs.specs.Meaning.{tally_in}
use Rattle.input.specs.Reading.{Reading, reading}

-- the bytes of the present line: the first `count` of an array that has room for one more than a line may have
pub record Held : Type 0 where
  pub bytes : List ℕ
  pub count : ℕ

abbrev pub held : List ℕ → ℕ → Held
held l n = record { bytes = l; count = n }

abbrev pub held_room : ℕ
held_room = 121

unfoldable pub present_line : Held → List ℕ
present_line h = take h.count h.bytes

-- one more byte, where there is room
unfoldable pub put : Held → ℕ → Held
put h b = elim (ltb h.count held_room) [ true ↦ held (set h.bytes h.count b) (h.count + 1) | false ↦ h ]

unfoldable pub put_all : Held → List ℕ → Held
put_all h [] = h
put_all h (b ∷ l) = put_all (put h b) l

-- the line that ends after the bytes l: they are all of it where nothing is held, else they follow what is held
unfoldable pub ended_line : Held → List ℕ → List ℕ
ended_line h l = elim (eqb h.count 0) [ true ↦ l | false ↦ present_line (put_all h l) ]

-- nothing is held after it; the array has its bytes only where some were held before
unfoldable pub held_after : Held → List ℕ → Held
held_after h l = elim (eqb h.count 0) [ true ↦ h | false ↦ held (put_all h l).bytes 0 ]

-- the cluster's memory, the answers of the last line, the tally, the lines read, and the present line
pub record Session : Type 0 where
  pub memory : Memory
  pub answers : List ℕ
  pub tally : Tally
  pub lines : ℕ
  pub held : Held

abbrev pub session : Memory → List ℕ → Tally → ℕ → Held → Session
session m l t n h = record { memory = m; answers = l; tally = t; lines = n; held = h }

abbrev pub keeping : Session → List ℕ → Session
keeping w l = session w.memory w.answers w.tally w.lines (put_all w.held l)

abbrev pub reading_in : Session → Reading
reading_in w = reading (state_in w.memory (tally_in w.tally)) w.lines (present_line w.held)
