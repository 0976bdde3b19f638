-- Requests, PLEASEVOTE among them (RULES, Elections 2, Replicas), by what they look at. The laws in proofs/ tie each answer to the move of crate `moves`
-- that it stands for.
use Rattle.std.specs.Prelude.{Bool, true, false, ℕ, eqb, ltb, if◌then◌else◌}
use Rattle.model.specs.Cluster as cluster
use Rattle.model.specs.Leader.{acts}
use Rattle.server.specs.declared.Version.{Version}
use Rattle.server.specs.declared.Head.{Head}
use Rattle.server.specs.declared.Message.{Message}
use Rattle.server.specs.Views.{role_in, version_in, chosen, is_broadcast}
use Rattle.server.specs.Heads.{voting_head, ceased_head}
use Rattle.rounds.specs.Rounds.{pick_version, no_version}
use Rattle.moves.specs.declared.Filling.TheVariants as filling
use Rattle.moves.specs.declared.Keeping.TheVariants as keeping
use Rattle.moves.specs.declared.Local.{Local}
use Rattle.moves.specs.declared.Move.{Move}
use Rattle.moves.specs.Moves.{local_of, no_answer}
use Rattle.server_requests.specs.declared.Seat.{Seat}
use Rattle.server_requests.specs.declared.Answered.{Answered}

-- what goes to all others is what asks each of them for a reply: kinds 1, 4 and 7
abbrev pub asks_for_reply : ℕ → Bool
asks_for_reply kind = is_broadcast kind

-- what a request looks at of a head
abbrev pub seat_of : Head → Seat
seat_of h = record { number = h.number; vote = h.vote; leader = h.leader; role = h.role }

-- ---- the answer

-- whether a leader or candidate ceases where its vote becomes v; a follower is neither
unfoldable pub steps_down : Seat → ℕ → Bool
steps_down s v = elim (acts (role_in s.role)) [ false ↦ false | true ↦ ltb s.number v ]

-- vote, leader and copy stay
abbrev pub left_answer : Seat → ℕ → Bool → Answered
left_answer s kind ceases = record { vote = s.vote; leader = s.leader; kind = kind; ceases = ceases; stores = false }

-- the vote goes to the sender
abbrev pub voted_answer : Seat → Message → ℕ → Bool → Answered
voted_answer s m kind stores =
    record { vote = m.election; leader = m.sender; kind = kind; ceases = steps_down s m.election; stores = stores }

-- whether the vote is the sender's already
unfoldable pub has_vote : Seat → Message → Bool
has_vote s m = elim (eqb m.election s.vote) [ true ↦ eqb m.sender s.leader | false ↦ false ]

-- PLEASEVOTE: a vote under a higher number is given; one that is given already is acknowledged again
unfoldable pub vote_answer : Seat → Message → Answered
vote_answer s m =
    elim (ltb s.vote m.election) [
      | true ↦ voted_answer s m 2 false
      | false ↦ left_answer s (chosen (has_vote s m) 2 3) (steps_down s s.vote)
    ]

-- REPLICAWRITE: stored only if its version is above that of the server's own copy
unfoldable pub write_answer : Seat → Message → Version → Answered
write_answer s m own =
    elim (ltb m.election s.vote) [
      | true ↦ left_answer s 6 false
      | false ↦ voted_answer s m 5 (cluster.above (version_in m.version) (version_in own))
    ]

-- REPLICAREAD
unfoldable pub read_answer : Seat → Message → Answered
read_answer s m = elim (ltb m.election s.vote) [ true ↦ left_answer s 9 false | false ↦ voted_answer s m 8 false ]

-- any other kind is answered as a read: nobody asks for it
unfoldable pub answer_to : Seat → Message → Version → Answered
answer_to s m own =
    elim (eqb m.kind 1) [
      | true ↦ vote_answer s m
      | false ↦ elim (eqb m.kind 4) [ true ↦ write_answer s m own | false ↦ read_answer s m ]
    ]

-- ---- the reply

-- ACKREAD carries the version of the server's own copy, any other reply none
abbrev pub carried_by : ℕ → Version → Version
carried_by kind own = pick_version (eqb kind 8) own no_version

-- with the bucket, the election number and the round of what it answers
abbrev pub reply_message : ℕ → Message → ℕ → Version → Message
reply_message me m kind own =
    record {
      kind = kind;
      sender = me;
      receiver = m.sender;
      bucket = m.bucket;
      election = m.election;
      round = m.round;
      version = carried_by kind own;
    }

-- ---- the move that an answer stands for

unfoldable pub answered_head : Answered → Head → Head
answered_head a h =
    elim a.ceases [ true ↦ ceased_head (voting_head a.vote a.leader h) | false ↦ voting_head a.vote a.leader h ]

unfoldable pub answered_move : Message → Local → Answered → Move
answered_move m l a =
    record {
      local = local_of (answered_head a l.head) (pick_version a.stores m.version l.version) l.round l.call;
      sends = a.kind;
      written = carried_by a.kind l.version;
      fills = filling.Stays;
      keeps = if a.stores then keeping.Message else keeping.Stays;
      answer = no_answer;
      ceases = a.ceases;
      forgets = false;
    }
