-- How many bytes of output a text may take, whatever numbers and data it has.
use Rattle.std.specs.Prelude.{ℕ, ◌*◌}
use Rattle.model.specs.Measures.{most_answers}

-- an answer
abbrev pub answer_room : ℕ
answer_room = 128

-- what a line prints
abbrev pub line_room : ℕ
line_room = most_answers * answer_room

-- the tally
abbrev pub tally_room : ℕ
tally_room = 64
