-- How far a part of the input was dealt with.
use Rattle.std.specs.Prelude.{true, false, List, [], ◌∷◌, ℕ, ◌+◌, eqb}
use Rattle.runs.specs.declared.Tally.{Tally}
use Rattle.progress.specs.declared.Ending.{Ending}
use Rattle.progress.specs.declared.Progress.{Progress}

-- nothing taken or written yet
abbrev pub begun_at : Tally → ℕ → ℕ → Progress
begun_at t lines count = record { tally = t; lines = lines; held = count; taken = 0; written = 0 }

-- the present line is not run: its bytes are kept
abbrev pub waiting_at : Progress → (held taken : ℕ) → Progress
waiting_at p held taken = record { tally = p.tally; lines = p.lines; held = held; taken = taken; written = p.written }

-- the present line was run
abbrev pub ended_at : Progress → Ending → ℕ → Progress
ended_at p e next = record { tally = e.tally; lines = p.lines + 1; held = 0; taken = next; written = e.written }

-- past the last line that is read
abbrev pub passed_at : Progress → ℕ → Progress
passed_at p size = record { tally = p.tally; lines = p.lines; held = p.held; taken = size; written = p.written }

-- what ends a line of n bytes that lacks its line feed: nothing where it is empty
unfoldable pub last_feed : ℕ → List ℕ
last_feed n = elim (eqb n 0) [ true ↦ [] | false ↦ 10 ∷ [] ]
