-- A flat list cut into regions of these sizes, one after another.
use Rattle.std.specs.Prelude.{List, [], ◌∷◌, ℕ, zero, suc, ◌+◌, take, drop, get_or}

module _ {A : Type 0} where
  abbrev pub cut : List ℕ → List A → List (List A)
  cut [] l = []
  cut (n ∷ ns) l = take n l ∷ cut ns (drop n l)

  -- region r
  unfoldable pub region : List ℕ → ℕ → List A → List A
  region ns r l = get_or (cut ns l) r []

-- where region r begins, and how long it is
abbrev pub start : List ℕ → ℕ → ℕ
start ns zero = 0
start [] (suc r) = 0
start (n ∷ ns) (suc r) = n + start ns r

abbrev pub size : List ℕ → ℕ → ℕ
size ns r = get_or ns r 0
