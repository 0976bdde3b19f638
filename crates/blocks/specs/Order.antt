-- Places, and a list of them: its first n numbers name those in use, in the order of what lies there; the others name the free ones.
use Rattle.std.specs.Prelude.{◌≢◌, List, [], ◌∷◌, ◌++◌, map, ℕ, zero, suc, ◌+◌, ◌-◌, ◌%◌, get_or, take, drop}

abbrev pub place_room : ℕ
place_room = 64

-- the place that a number names: every number names one
abbrev pub place : ℕ → ℕ
place x = x % place_room

abbrev pub All : (ℕ → Type 0) → List ℕ → Type 0
All P [] = Unit {0}
All P (x ∷ l) = P x × All P l

-- no two numbers of the list name one place
abbrev pub Ordered : List ℕ → Type 0
Ordered [] = Unit {0}
Ordered (x ∷ l) = All (λ y. place y ≢ place x) l × Ordered l

-- what lies at the places of the first n numbers
unfoldable pub listed : {M : Type 0} → (ℕ → M) → ℕ → List ℕ → List M
listed at n o = map (λ x. at (place x)) (take n o)

-- number i of the first n goes behind the others of them: its place is free then
unfoldable pub rotated : ℕ → ℕ → List ℕ → List ℕ
rotated n i o = take i o ++ (take (n - (i + 1)) (drop (i + 1) o) ++ (get_or o i 0 ∷ drop n o))

-- k, k + 1, .. of n numbers
unfoldable pub rising : ℕ → ℕ → List ℕ
rising k zero = []
rising k (suc n) = k ∷ rising (k + 1) n
