-- Laws of elections. A server's next number is the least above its number and above its vote; so it votes for itself under it, and asks
-- every other server.
use mathlib.Core.Path.{◌≡◌, refl, sym}
use mathlib.Core.List.{[]}
use mathlib.Core.Bool.{Bool, true, false}
use Prim.Native.Nat.{ℕ, ◌+◌, ◌≤◌, ◌<◌}
use native.Mathlib.Omega.{arith}
use lib.Dec.{ltb, leb}
use lib.ListN.{set}
use borrow.Author.Tests.{leb-true, leb-false, lt-ltb, le-ltb}
use Rattle.model.specs.Cluster.{Stored, Server, Cluster, please_vote}
use Rattle.model.specs.Replica.{voting, grants, after_vote}
use Rattle.model.specs.Leader.{Reaction, reaction, with_stored, with_volatile, broadcast, endings, cease, standing, stand_for_election, larger_number, next_number, raised_to, elect}
use Rattle.model.specs.Lines.{server_at, last_number}

pub above_the_number : (st : Stored) → st.number < next_number st
unfolding next_number
above_the_number st = omega arith

pub above_the_vote : (st : Stored) → st.vote < next_number st
unfolding next_number
above_the_vote st = omega arith

pub next_number_least : (st : Stored) (e : ℕ) → st.number < e → st.vote < e → next_number st ≤ e
unfolding next_number
next_number_least st e h k = omega arith

at_most : (a b : ℕ) → leb a b ≡ ltb a (b + 1)
at_most a b = go (leb a b) refl
  where
    go : (z : Bool) → leb a b ≡ z → z ≡ ltb a (b + 1)
    go true e = sym (lt-ltb a (b + 1) (omega (arith, leb-true a b e)))
    go false e = sym (le-ltb a (b + 1) (omega (arith, leb-false a b e)))

-- 11 is given exactly where that number would be above the greatest
pub eleven_above_the_top : (top : ℕ) (c : Cluster) (s : ℕ) → last_number top c s ≡ ltb top (next_number (server_at c s).stored)
unfolding last_number next_number
eleven_above_the_top top c s = at_most top (larger_number (server_at c s).stored)

-- server s stands: it has its own vote, and the requests go out
abbrev pub stood : ℕ → ℕ → ℕ → Server → Reaction
stood n me e s =
    reaction (with_volatile s (standing n (set s.volatile.votes me true) s.volatile)) (broadcast n me 0 e 0 please_vote) []

-- under a number above its vote a server votes for itself
fresh_vote_lem : (n me e : ℕ) (s : Server) → s.stored.vote < e → stand_for_election n me e s ≡ stood n me e (with_stored s (voting e me s.stored))
unfolding stand_for_election grants after_vote
fresh_vote_lem n me e s h = rw (stand_for_election, grants, after_vote, lt-ltb _ _ h)

-- so an election always asks: it ends leadership and candidacy, and what it leaves stands under its next number with its own vote
pub always_stands : (n me : ℕ) (s : Server) →
    let e = next_number s.stored in
    let g = stood n me e (with_stored (cease s).server (voting e me (raised_to e s.stored))) in
    elect n me s ≡ reaction g.server g.sends (endings s.volatile.calls)
unfolding elect cease
always_stands n me s =
    rw (fresh_vote_lem n me (next_number s.stored) (with_stored (cease s).server (raised_to (next_number s.stored) s.stored)) (above_the_vote s.stored))
