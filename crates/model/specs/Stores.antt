-- What a server stores before it replies, and in which order (RULES, Restarts 1 and 2). A store replaces one part of what is stored: the
-- vote with its leader, or a bucket with its version. The election number is stored in the line of the election, before votes are asked for.
use Rattle.std.specs.Prelude.{List, [], ◌∷◌, ◌++◌, Bool, true, false, ℕ, ltb, eqb}
use Rattle.model.specs.Cluster.{above, Copy, Stored, copy_at, Body, please_vote, ack_vote, nack_vote, replica_write, ack_write, nack_write, replica_read, ack_read, nack_read, Message}
use Rattle.model.specs.Replica.{voting, Request, reading, writing, may_accept, with_copy}

pub data Store : Type 0 where
  vote_store : ℕ → ℕ → Store
  copy_store : ℕ → Copy → Store

unfoldable pub put_store : Store → Stored → Stored
put_store (vote_store e p) st = voting e p st
put_store (copy_store b c) st = with_copy b c st

-- one after the other
unfoldable pub put_stores : List Store → Stored → Stored
put_stores [] st = st
put_stores (x ∷ l) st = put_stores l (put_store x st)

-- a store is made only where that part changes
unfoldable pub vote_stores : ℕ → ℕ → Stored → List Store
vote_stores e p st =
    elim (eqb e st.vote) [
      | false ↦ vote_store e p ∷ []
      | true ↦
          elim (eqb p st.leader) [ true ↦ [] | false ↦ vote_store e p ∷ [] ]
    ]

unfoldable pub copy_stores : ℕ → Copy → Stored → List Store
copy_stores b c u = elim (above c.version (copy_at u b).version) [ true ↦ copy_store b c ∷ [] | false ↦ [] ]

-- an accepted request of p under e on bucket b: the vote, then the bucket
unfoldable pub accept_stores : ℕ → ℕ → ℕ → Request → Stored → List Store
accept_stores b e p reading st = vote_stores e p st
accept_stores b e p (writing c) st = vote_stores e p st ++ copy_stores b c st

unfoldable pub request_stores : Message → Request → Stored → List Store
request_stores m request st =
    elim (may_accept m.election st) [ false ↦ [] | true ↦ accept_stores m.bucket m.election m.sender request st ]

unfoldable pub please_vote_stores : ℕ → ℕ → Stored → List Store
please_vote_stores e p st = elim (ltb st.vote e) [ true ↦ vote_store e p ∷ [] | false ↦ [] ]

-- the stores that a message makes; of a reply none are listed, since it cannot be cut
unfoldable pub stores_of : Message → Stored → List Store
stores_of m st =
    elim m.body [
      | please_vote ↦ please_vote_stores m.election m.sender st
      | ack_vote ↦ []
      | nack_vote ↦ []
      | replica_write c ↦ request_stores m (writing c) st
      | ack_write ↦ []
      | nack_write ↦ []
      | replica_read ↦ request_stores m reading st
      | ack_read c ↦ []
      | nack_read ↦ []
    ]

-- kinds 1, 4 and 7, what broadcasts send: these messages can be cut
unfoldable pub is_broadcast : Body → Bool
is_broadcast please_vote = true
is_broadcast ack_vote = false
is_broadcast nack_vote = false
is_broadcast (replica_write c) = true
is_broadcast ack_write = false
is_broadcast nack_write = false
is_broadcast replica_read = true
is_broadcast (ack_read c) = false
is_broadcast nack_read = false

-- the new vote with the old buckets, where `old` is what was stored before a message and `new` what is stored after it
abbrev pub new_vote_old_buckets : Stored → Stored → Stored
new_vote_old_buckets old new = record { number = old.number; vote = new.vote; leader = new.leader; copies = old.copies }
