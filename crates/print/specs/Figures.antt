-- The figures of a number: the bytes of an array from a place on.
use Rattle.std.specs.Prelude.{◌≡◌, ℕ, ◌≤◌, length, drop}
use Rattle.model.specs.Print.{decimal}
use Rattle.print.specs.declared.Figures.{Figures}

pub record FiguresOf (n : ℕ) (f : Figures) : Type 0 where
  pub is : drop f.from f.bytes ≡ decimal n
  pub within : f.from ≤ 10
  pub ten : length f.bytes ≡ 10
