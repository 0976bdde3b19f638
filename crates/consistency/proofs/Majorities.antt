-- The majorities of a cluster of any size, whose servers are numbered from 0 on: two of them share a server, and the servers of
-- enough marks are one.
use mathlib.Core.Path.{◌≡◌}
use mathlib.Core.Bool.{Bool, true}
use mathlib.Core.List.{List}
use Prim.Native.Nat.{ℕ, ◌≤◌}
use native.Mathlib.Omega.{arith}
use lib.ListN.{length, get_or}
use Rattle.model.specs.Measures.{majority}
use Rattle.model.proofs.Majorities.{majority_half}
use Rattle.history.specs.Members.{◌∈◌}
use Rattle.history.specs.History.{Quorums}
use Rattle.history.proofs.Quorum.{Majority, count, marked, marked_passes}
use Rattle.history.proofs.MajorityQuorums.{majority_quorums, quorum_of}

-- a majority of n servers
abbrev pub MajorityOf : ℕ → List ℕ → Type 0
MajorityOf n l = Majority 0 n (majority n) l

abbrev pub quorums : ℕ → Quorums
quorums n = majority_quorums 0 n (majority n) (majority_half n)

-- the servers whose marks pass a test: the place of a mark is its server's number
pub passing : {A : Type 0} → (A → Bool) → List A → List ℕ
passing f l = marked f 0 l

module _ {A : Type 0} (f : A → Bool) where
  pub passing_majority : (n : ℕ) (l : List A) → length l ≤ n → majority n ≤ count f l → MajorityOf n (passing f l)
  unfolding passing
  passing_majority n l h k = quorum_of f 0 n (majority n) l h k

  pub passing_passes : (l : List A) (q : ℕ) → q ∈ passing f l → (d : A) → f (get_or l q d) ≡ true
  unfolding passing
  passing_passes l q m d = let (i, e, b, t) = marked_passes f 0 l q m in let z : q ≡ i = omega arith in rw z (t d)
