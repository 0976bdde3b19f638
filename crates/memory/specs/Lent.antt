-- A lent array in contracts: as it was when the function was called, and as it is when the function returns.
use Rattle.std.specs.Prelude.{List, ℕ}
use Rattle.std.specs.Borrow.{Bor, MutBor}
use denote.Triple.Both.{Both}

abbrev pub Lent : Type 0
Lent = Both (MutBor (List ℕ)) (MutBor (List ℕ))

abbrev pub was : Lent → List ℕ
was l = l.entry.now

abbrev pub is : Lent → List ℕ
is l = l.exit.now

-- an array that is lent to be read alone, where a definition speaks of arrays that may be written
abbrev pub written_as : Bor (List ℕ) → MutBor (List ℕ)
written_as r = record { ref_ptr = r.ref_ptr; ghost_name = 0; now = r.now }

abbrev pub read_only : Both (Bor (List ℕ)) (Bor (List ℕ)) → Lent
read_only r = record { entry = written_as r.entry; exit = written_as r.exit }
