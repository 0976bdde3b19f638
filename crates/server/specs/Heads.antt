-- What the rules of votes and elections make of a server's head, number by number. The laws in proofs/HeadLaws.antt tie each to
-- the definition of the same name in crates/model. A number that is raised wraps at 2 ^ 32.
use Rattle.std.specs.Prelude.{ℕ, ◌+◌, ◌%◌, ◌^◌, max, true, false, List, replicate, ◌==◌, nat_le, nat_lt, slice_set}
use Rattle.model.specs.Measures.{majority}
use Rattle.server.specs.declared.Head.{Head}
use Rattle.model.specs.Leader.{votes_for}
use Rattle.server.specs.Views.{votes_in}

abbrev pub voting_head : ℕ → ℕ → Head → Head
voting_head e p h =
    record { number = h.number; vote = e; leader = p; role = h.role; last = h.last; stopped = h.stopped; votes = h.votes }

unfoldable pub after_vote_head : ℕ → ℕ → Head → Head
after_vote_head e p h =
    voting_head (elim (nat_lt h.vote e) [ true ↦ e | false ↦ h.vote ]) (elim (nat_lt h.vote e) [ true ↦ p | false ↦ h.leader ]) h

-- neither leader nor candidate
abbrev pub ceased_head : Head → Head
ceased_head h =
    record { number = h.number; vote = h.vote; leader = h.leader; role = 0; last = h.last; stopped = h.stopped; votes = replicate 7 0 }

abbrev pub with_votes : List ℕ → Head → Head
with_votes l h =
    record { number = h.number; vote = h.vote; leader = h.leader; role = h.role; last = h.last; stopped = h.stopped; votes = l }

-- the vote of server q is had
abbrev pub voted_head : ℕ → Head → Head
voted_head q h = with_votes (slice_set h.votes q 1) h

-- leader with a majority of votes, candidate with fewer
unfoldable pub role_by : ℕ → ℕ → ℕ
role_by n votes = elim (nat_le (majority n) votes) [ true ↦ 2 | false ↦ 1 ]

abbrev pub with_role : ℕ → Head → Head
with_role k h =
    record { number = h.number; vote = h.vote; leader = h.leader; role = k; last = h.last; stopped = h.stopped; votes = h.votes }

abbrev pub standing_head : ℕ → Head → Head
standing_head n h = with_role (role_by n (votes_for (votes_in n h))) h

abbrev pub with_number : ℕ → Head → Head
with_number k h =
    record { number = k; vote = h.vote; leader = h.leader; role = h.role; last = h.last; stopped = h.stopped; votes = h.votes }

-- the larger of number and vote; the number of the next election is one above it
abbrev pub larger_number_of : Head → ℕ
larger_number_of h = max h.number h.vote

abbrev pub next_number_of : Head → ℕ
next_number_of h = (larger_number_of h + 1) % 2 ^ 32

-- leadership and candidacy end, and the server stands under its next number with its own vote
unfoldable pub elected_head : ℕ → ℕ → Head → Head
elected_head n me h =
    let e = next_number_of h in
    standing_head n (voted_head me (with_number e (voting_head e me (ceased_head h))))

unfoldable pub on_ack_vote_head : ℕ → ℕ → ℕ → Head → Head
on_ack_vote_head n q e h =
    elim (h.role == 1) [
      | false ↦ h
      | true ↦
          elim (e == h.number) [ false ↦ h | true ↦ standing_head n (voted_head q h) ]
    ]
