-- What a printer leaves: a text stands in the output from a place on, and the other bytes are as before.
use Rattle.std.specs.Prelude.{◌≡◌, List, ◌++◌, ℕ, ◌+◌, length, take, drop}

-- `text` was written at `at`, and ends before r
pub record Printed (text before : List ℕ) (at : ℕ) (after : List ℕ) (r : ℕ) : Type 0 where
  pub is : after ≡ take at before ++ text ++ drop (at + length text) before
  pub ends : r ≡ at + length text
