-- What a server does as a voter and as a replica, on what it stores (RULES, Elections 2, Replicas; the paper, Algorithms 1 to 3).
use Rattle.std.specs.Prelude.{Bool, true, false, ℕ, ltb, eqb, set}
use Rattle.model.specs.Cluster.{above, Copy, Stored, copy_at, Body, replica_write, replica_read, ack_write, nack_write, ack_read, nack_read}

-- the vote and its leader (Algorithm 1, lines 8 and 9; Algorithms 2 and 3, lines 14 and 15)
abbrev pub voting : ℕ → ℕ → Stored → Stored
voting e p st = record { number = st.number; vote = e; leader = p; copies = st.copies }

-- Algorithm 1, PLEASEVOTE of p under e: whether it is acknowledged, and what is stored then
unfoldable pub grants : ℕ → ℕ → Stored → Bool
grants e p st =
    elim (ltb st.vote e) [
      | true ↦ true
      | false ↦
          elim (eqb e st.vote) [ true ↦ eqb p st.leader | false ↦ false ]
    ]

unfoldable pub after_vote : ℕ → ℕ → Stored → Stored
after_vote e p st = elim (ltb st.vote e) [ true ↦ voting e p st | false ↦ st ]

-- what a round asks of a replica: its copy of the bucket, or to store a copy
pub data Request : Type 0 where
  reading : Request
  writing : Copy → Request

unfoldable pub request_body : Request → Body
request_body reading = replica_read
request_body (writing c) = replica_write c

-- Algorithms 2 and 3: a request under a number below the vote is refused
unfoldable pub may_accept : ℕ → Stored → Bool
may_accept e st = elim (ltb e st.vote) [ true ↦ false | false ↦ true ]

-- with another copy of bucket b
abbrev pub with_copy : ℕ → Copy → Stored → Stored
with_copy b c st = record { number = st.number; vote = st.vote; leader = st.leader; copies = set st.copies b c }

-- an accepted write is stored only if its version is above the stored one, which the paper does not ask (RULES, Replicas 4)
unfoldable pub storing : ℕ → Copy → Stored → Stored
storing b c st = elim (above c.version (copy_at st b).version) [ false ↦ st | true ↦ with_copy b c st ]

-- an accepted request of p under e on bucket b: the vote is updated, and a write is stored
unfoldable pub accepting : ℕ → ℕ → ℕ → Request → Stored → Stored
accepting b e p reading st = voting e p st
accepting b e p (writing c) st = storing b c (voting e p st)

-- the replies to a request, made from what the replica stores afterwards
unfoldable pub acknowledging : ℕ → Request → Stored → Body
acknowledging b reading st = ack_read (copy_at st b)
acknowledging b (writing c) st = ack_write

unfoldable pub refusing : Request → Body
refusing reading = nack_read
refusing (writing c) = nack_write
