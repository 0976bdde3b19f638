-- Where the first word of a line ends: at the first space, if there is one.
use Rattle.std.specs.Prelude.{List, ℕ, ◌==◌, Option, position}

abbrev pub first_space : List ℕ → Option ℕ
first_space l = position (λ b. b == 32) l
