-- Where a key stands among the entries of a table, and what a change of a decoded table gives.
use Rattle.std.specs.Prelude.{◌≡◌, List, [], ◌∷◌, Bool, true, false, ℕ, suc, ◌≤◌, length, Result, Ok, Err}
use Rattle.std.specs.declared.cmp.Ordering.TheVariants.{Less, Equal, Greater}
use Rattle.std.proofs.Math.Option.{Option, none, some}
use Rattle.entries.specs.declared.Decoded.{Decoded}
use Rattle.entries.specs.declared.Full.{Full}
use Rattle.entries.specs.Entries.{Entry, order, holds}
use Rattle.entries.specs.Decoded.{table_in}

-- how many entries, from the first on, have keys before k
unfoldable pub leading : List ℕ → List Entry → ℕ
leading k [] = 0
leading k (e ∷ t) = elim (order k e.key) [ Less ↦ 0 | Equal ↦ 0 | Greater ↦ suc (leading k t) ]

-- a number of keys that stand before k, and whether k is the next
pub record Leads (k : List ℕ) (t : List Entry) (at : ℕ) (held : Bool) : Type 0 where
  pub at_is : at ≡ leading k t
  pub held_is : held ≡ holds k t
  pub low : length t ≤ 4

abbrev pub Placed : List ℕ → List Entry → Result ℕ ℕ → Type 0
Placed k t (Ok at) = Leads k t at true
Placed k t (Err at) = Leads k t at false

-- the table of a change, none where there was no room
abbrev pub stored_in : Result Decoded Full → Option (List Entry)
stored_in (Ok t) = some (table_in t)
stored_in (Err _) = none
