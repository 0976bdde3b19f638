-- A majority of marks is a majority of servers, each of which has done what its mark stands for.
use mathlib.Core.Path.{◌≡◌, refl}
use mathlib.Core.List.{List, [], ◌∷◌}
use mathlib.Core.Bool.{Bool, true, false}
use Prim.Native.Nat.{ℕ}
use native.Mathlib.Omega.{arith}
use lib.ListN.{length, get_or}
use borrow.Author.Tests.{leb-true}
use Rattle.model.specs.Cluster.{Version, Mark, silent, acknowledged, refused, Round}
use Rattle.model.specs.Leader.{acknowledgements, closes}
use Rattle.history.specs.Members.{◌∈◌}
use Rattle.history.proofs.Quorum.{count}
use Rattle.consistency.proofs.Majorities.{MajorityOf, passing, passing_majority, passing_passes}
use Rattle.consistency.proofs.Log.{Log}
use Rattle.consistency.proofs.Claims.{Chosen, quorum}
use Rattle.consistency.proofs.Invariant.{MarksAccepted}

abbrev is_ack : Mark → Bool
is_ack silent = false
is_ack acknowledged = true
is_ack refused = false

acknowledged_count : (l : List Mark) → acknowledgements l ≡ count is_ack l
unfolding acknowledgements count
acknowledged_count [] = refl
acknowledged_count (silent ∷ l) = omega (arith, acknowledged_count l)
acknowledged_count (acknowledged ∷ l) = omega (arith, acknowledged_count l)
acknowledged_count (refused ∷ l) = omega (arith, acknowledged_count l)

is_acknowledged : (m : Mark) → is_ack m ≡ true → m ≡ acknowledged
is_acknowledged silent e = cc
is_acknowledged acknowledged e = refl
is_acknowledged refused e = cc

-- who acknowledged
pub acknowledgers : Round → List ℕ
acknowledgers r = passing is_ack r.marks

module _ (n : ℕ) (r : Round) (size : length r.marks ≡ n) (shut : closes n r ≡ true) where
  pub closed_majority : MajorityOf n (acknowledgers r)
  unfolding acknowledgers closes
  closed_majority = passing_majority is_ack n r.marks (omega arith) (rw (← acknowledged_count r.marks) (leb-true _ _ shut))

  pub closed_marked : (q : ℕ) → q ∈ acknowledgers r → get_or r.marks q silent ≡ acknowledged
  unfolding acknowledgers
  closed_marked q m = is_acknowledged _ (passing_passes is_ack r.marks q m silent)

  -- a writing round that closes leaves its version chosen
  pub closed_chosen : {log : Log} (b : ℕ) (x : Version) → MarksAccepted log b x r.marks → Chosen n log b x
  closed_chosen b x marks = quorum (acknowledgers r) closed_majority (λ q m. marks q (closed_marked q m))
