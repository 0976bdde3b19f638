-- What the tests on a datagram say, case by case.
use mathlib.Core.Path.{◌≡◌, refl, sym}
use mathlib.Core.Bool.{Bool, true, false, ◌&&◌, and-true, and-false}
use Prim.Native.Nat.{ℕ, ◌≤◌, ◌<◌}
use native.Mathlib.Omega.{arith}
use lib.Dec.{leb, eqb}
use lib.ListN.{length}
use borrow.Author.Tests.{le-leb, lt-leb, eq-eqb, ne_eqb}
use Rattle.table.specs.Form.{within}
use Rattle.table.proofs.Fitting.{within_from}
use Rattle.fields.specs.Form.{Datagram, max_four, is_vote, carries, length_of, addressed, rounded, settled, same_election, versioned, well_formed, header_bytes, full_bytes, datagram_bytes}

-- two tests that hold together
pub and_parts : (p q : Bool) → (p && q) ≡ true → (p ≡ true) × (q ≡ true)
and_parts true q h = (refl, h)
and_parts false q h = (h, (cc))

-- a number that its field can hold is within the field where it is not 0
pub at_least_one : (top n : ℕ) → n ≤ top → leb 1 n ≡ within top n
unfolding within
at_least_one top n h = go (leb 1 n) refl
  where
    go : (p : Bool) → leb 1 n ≡ p → leb 1 n ≡ within top n
    go true p = rw (within, p, le-leb n top h)
    go false p = rw (within, p)

pub below_one : (top n : ℕ) → n < 1 → within top n ≡ false
unfolding within
below_one top n h = rw (within, lt-leb 1 n h)

pub above_top : (top n : ℕ) → top < n → within top n ≡ false
unfolding within
above_top top n h = rw (within, le-leb 1 n (omega arith), lt-leb n top h)

-- ---- kinds

pub carries_write : (k : ℕ) → k ≡ 4 → carries k ≡ true
unfolding carries
carries_write k h = rw (carries, h)

pub carries_read : (k : ℕ) → k ≡ 8 → carries k ≡ true
unfolding carries
carries_read k h = rw (carries, h)

pub carries_none : (k : ℕ) → (k ≡ 4 → ⊥) → (k ≡ 8 → ⊥) → carries k ≡ false
unfolding carries
carries_none k h g = rw (carries, ne_eqb k 4 h, ne_eqb k 8 g)

pub plain_length : (k : ℕ) → carries k ≡ false → length_of k ≡ 10
unfolding length_of
plain_length k c = rw (length_of, c)

pub full_length : (k : ℕ) → carries k ≡ true → length_of k ≡ 129
unfolding length_of
full_length k c = rw (length_of, c)

pub plain_bytes : (d : Datagram) → carries d.kind ≡ false → datagram_bytes d ≡ header_bytes d
unfolding datagram_bytes
plain_bytes d c = rw (datagram_bytes, c)

pub full_bytes_lem : (d : Datagram) → carries d.kind ≡ true → datagram_bytes d ≡ full_bytes d
unfolding datagram_bytes
full_bytes_lem d c = rw (datagram_bytes, c)

-- ---- the rules of each kind

pub unaddressed : (d : Datagram) → addressed d.from d.to d.bucket d.election ≡ false → false ≡ well_formed d
unfolding well_formed
unaddressed d h = rw (well_formed, h, and-false)

module _ (d : Datagram) (a : addressed d.from d.to d.bucket d.election ≡ true) where
  pub unknown_kind : within 9 d.kind ≡ false → false ≡ well_formed d
  unfolding well_formed
  unknown_kind h = rw (well_formed, h)

  pub vote_rules : 1 ≤ d.kind → d.kind < 4 → (eqb d.bucket 0 && eqb d.round 0) ≡ well_formed d
  unfolding well_formed rounded is_vote versioned
  vote_rules l h =
      rw (well_formed, within_from {top = 9} {n = d.kind} l (omega arith), a, rounded, is_vote, within_from {top = 3} {n = d.kind} l (omega arith), versioned, carries_none d.kind (omega arith) (omega arith))
      (sym (and-true (eqb d.bucket 0 && eqb d.round 0)))

  module _ (l : 3 < d.kind) (h : d.kind ≤ 9) (r : d.round ≤ max_four) where
    pub plain_rules : (d.kind ≡ 4 → ⊥) → (d.kind ≡ 8 → ⊥) → leb 1 d.round ≡ well_formed d
    unfolding well_formed rounded is_vote versioned
    plain_rules n m =
        rw (well_formed, within_from {top = 9} {n = d.kind} (omega arith) h, a, rounded, is_vote, above_top 3 d.kind l, versioned, carries_none d.kind n m, and-true (within max_four d.round))
        (at_least_one max_four d.round r)

    pub read_rules : d.kind ≡ 8 → (leb 1 d.round && settled d.version (length d.table)) ≡ well_formed d
    unfolding well_formed rounded is_vote versioned same_election
    read_rules k =
        rw (well_formed, within_from {top = 9} {n = d.kind} (omega arith) h, a, rounded, is_vote, above_top 3 d.kind l, versioned, carries_read d.kind k, same_election, k, at_least_one max_four d.round r)

    module _ (k : d.kind ≡ 4) where
      pub write_rules : d.version.election ≡ d.election → (leb 1 d.round && settled d.version (length d.table)) ≡ well_formed d
      unfolding well_formed rounded is_vote versioned same_election
      write_rules e =
          rw (well_formed, within_from {top = 9} {n = d.kind} (omega arith) h, a, rounded, is_vote, above_top 3 d.kind l, versioned, carries_write d.kind k, same_election, eq-eqb d.kind 4 k, eq-eqb d.version.election d.election e, at_least_one max_four d.round r)

      pub other_election : (d.version.election ≡ d.election → ⊥) → false ≡ well_formed d
      unfolding well_formed rounded is_vote versioned same_election
      other_election e =
          rw (well_formed, versioned, carries_write d.kind k, same_election, eq-eqb d.kind 4 k, ne_eqb d.version.election d.election e, and-false)
