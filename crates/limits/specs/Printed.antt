-- The greatest sizes of what is printed.
use Rattle.std.specs.Prelude.{ℕ, ◌*◌}
use Rattle.model.specs.Measures.{most_answers}

-- a line's answers, of 24 bytes each: 192
abbrev pub max_printed : ℕ
max_printed = most_answers * 24

-- counts of 8 digits for sent and for copied, 17 for delivered and lost, and 2 for in flight
abbrev pub max_tally_bytes : ℕ
max_tally_bytes = 49
