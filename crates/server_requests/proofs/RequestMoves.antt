-- The answer to a request stands for the move that crate `moves` makes of it, and what it leaves as it was.
use mathlib.Core.Path.{◌≡◌, refl}
use mathlib.Core.Bool.{Bool, true, false}
use Prim.Native.Nat.{ℕ}
use borrow.Author.Tests.{eqb-true}
use lib.Dec.{eqb, ltb}
use Rattle.model.specs.Cluster as cluster
use Rattle.model.specs.Replica.{grants, may_accept}
use Rattle.model.specs.Leader.{acts}
use Rattle.server.specs.declared.Message.{Message}
use Rattle.server.specs.Views.{role_in, version_in, among, is_broadcast, chosen}
use Rattle.server.specs.Heads.{voting_head, after_vote_head, ceased_head}
use Rattle.rounds.specs.Rounds.{pick_version, no_version}
use Rattle.rounds.specs.Kinds.{handling_in}
use Rattle.moves.specs.declared.Local.{Local}
use Rattle.moves.specs.declared.Move.{Move}
use Rattle.moves.specs.Moves.{with_head, sending, ceasing, stepped_down, vote_move, request_move, voting_move, handling_move, handled_move, reads_by, reads_table}
use Rattle.server_requests.specs.declared.Answered.{Answered}
use Rattle.server_requests.specs.Requests.{asks_for_reply, seat_of, steps_down, left_answer, has_vote, vote_answer, write_answer, read_answer, answer_to, reply_message, answered_head, answered_move}

abbrev answer_with : ℕ → ℕ → ℕ → Bool → Bool → Answered
answer_with vote leader kind stores ceases = record { vote = vote; leader = leader; kind = kind; ceases = ceases; stores = stores }

module _ (m : Message) (l : Local) where
  -- ---- when leading ends

  -- by the two tests: whether the server leads or stands, and whether its vote is then above its number
  ceasing_by : (vote leader kind : ℕ) (stores a b : Bool)
      → (elim a as (λ _. Move) [
        | false ↦ answered_move m l (answer_with vote leader kind stores false)
        | true ↦ elim b [ true ↦ ceasing (answered_move m l (answer_with vote leader kind stores false)) | false ↦ answered_move m l (answer_with vote leader kind stores false) ]
      ])
      ≡ answered_move m l (answer_with vote leader kind stores (elim a [ false ↦ false | true ↦ b ]))
  unfolding answered_move answered_head
  ceasing_by vote leader kind stores false b = refl
  ceasing_by vote leader kind stores true true = refl
  ceasing_by vote leader kind stores true false = refl

  stepped_answer : (vote leader kind : ℕ) (stores : Bool)
      → stepped_down (answered_move m l (answer_with vote leader kind stores false)) ≡ answered_move m l (answer_with vote leader kind stores (steps_down (seat_of l.head) vote))
  unfolding stepped_down steps_down answered_move answered_head
  stepped_answer vote leader kind stores = ceasing_by vote leader kind stores (acts (role_in l.head.role)) (ltb l.head.number vote)

  -- ---- the three kinds

  -- PLEASEVOTE that gets no new vote, by whether the vote is the sender's already
  left_by : (y : Bool)
      → stepped_down (sending (chosen y 2 3) no_version (with_head (voting_head l.head.vote l.head.leader l.head) l))
      ≡ answered_move m l (left_answer (seat_of l.head) (chosen y 2 3) (steps_down (seat_of l.head) l.head.vote))
  unfolding chosen pick_version answered_move answered_head
  left_by true = stepped_answer l.head.vote l.head.leader 2 false
  left_by false = stepped_answer l.head.vote l.head.leader 3 false

  vote_answered : (x : Bool) → ltb l.head.vote m.election ≡ x → vote_move m l ≡ answered_move m l (vote_answer (seat_of l.head) m)
  unfolding vote_move vote_answer has_vote grants after_vote_head chosen pick_version answered_move answered_head
  vote_answered true e = rw (vote_move, vote_answer, grants, after_vote_head, e) (stepped_answer m.election m.sender 2 false)
  vote_answered false e = rw (vote_move, vote_answer, grants, after_vote_head, e) (left_by (has_vote (seat_of l.head) m))

  write_answered : (x : Bool) → ltb m.election l.head.vote ≡ x → request_move true m l ≡ answered_move m l (write_answer (seat_of l.head) m l.version)
  unfolding request_move may_accept write_answer chosen pick_version answered_move answered_head
  write_answered true e = rw (request_move, may_accept, write_answer, e)
  write_answered false e =
      rw (request_move, may_accept, write_answer, e) (stepped_answer m.election m.sender 5 (cluster.above (version_in m.version) (version_in l.version)))

  read_answered : (x : Bool) → ltb m.election l.head.vote ≡ x → request_move false m l ≡ answered_move m l (read_answer (seat_of l.head) m)
  unfolding request_move may_accept read_answer chosen pick_version answered_move answered_head
  read_answered true e = rw (request_move, may_accept, read_answer, e)
  read_answered false e = rw (request_move, may_accept, read_answer, e) (stepped_answer m.election m.sender 8 false)

  -- ---- a request, by its kind

  abbrev answer_by : ℕ → Answered
  answer_by k =
      elim (eqb k 1) [
        | true ↦ vote_answer (seat_of l.head) m
        | false ↦ elim (eqb k 4) [ true ↦ write_answer (seat_of l.head) m l.version | false ↦ read_answer (seat_of l.head) m ]
      ]

  kinds_answered : (n me result k : ℕ) → asks_for_reply k ≡ true → handling_move n me result m l (handling_in k) ≡ answered_move m l (answer_by k)
  unfolding is_broadcast handling_in among handling_move voting_move
  kinds_answered n me result k = go (eqb k 1) refl (eqb k 4) refl
    where
      go : (x : Bool) → eqb k 1 ≡ x → (y : Bool) → eqb k 4 ≡ y → (elim x as (λ _. Bool) [ true ↦ true | false ↦ elim y [ true ↦ true | false ↦ eqb k 7 ] ]) ≡ true → handling_move n me result m l (handling_in k) ≡ answered_move m l (answer_by k)
      go true e y f h = rw (eqb-true k 1 e) (vote_answered (ltb l.head.vote m.election) refl)
      go false e true f h = rw (eqb-true k 4 f) (write_answered (ltb m.election l.head.vote) refl)
      go false e false f h = rw (eqb-true k 7 h) (read_answered (ltb m.election l.head.vote) refl)

  -- the answer stands for the whole move that the handling of the request makes
  pub request_handled : (n me result : ℕ) → asks_for_reply m.kind ≡ true → handled_move n me result m l ≡ answered_move m l (answer_to (seat_of l.head) m l.version)
  unfolding handled_move answer_to
  request_handled n me result h = kinds_answered n me result m.kind h

  kinds_read_nothing : (n k : ℕ) → asks_for_reply k ≡ true → reads_by n m l (handling_in k) ≡ false
  unfolding is_broadcast handling_in among reads_by
  kinds_read_nothing n k = go (eqb k 1) refl (eqb k 4) refl
    where
      go : (x : Bool) → eqb k 1 ≡ x → (y : Bool) → eqb k 4 ≡ y → (elim x as (λ _. Bool) [ true ↦ true | false ↦ elim y [ true ↦ true | false ↦ eqb k 7 ] ]) ≡ true → reads_by n m l (handling_in k) ≡ false
      go true e y f h = rw (eqb-true k 1 e)
      go false e true f h = rw (eqb-true k 4 f)
      go false e false f h = rw (eqb-true k 7 h)

  pub request_reads_nothing : (n : ℕ) → asks_for_reply m.kind ≡ true → reads_table n m l ≡ false
  unfolding reads_table
  request_reads_nothing n h = kinds_read_nothing n m.kind h

  -- ---- what an answer leaves as it was

  module _ (a : Answered) where
    pub answer_keeps_round : (answered_move m l a).local.round ≡ l.round
    unfolding answered_move
    answer_keeps_round = refl

    pub answer_keeps_call : (answered_move m l a).local.call ≡ l.call
    unfolding answered_move
    answer_keeps_call = refl

    -- where leading does not end, only vote and leader of the head change
    pub answer_votes_alone : a.ceases ≡ false → (answered_move m l a).local.head ≡ voting_head a.vote a.leader l.head
    unfolding answered_move answered_head
    answer_votes_alone e = rw (answered_move, answered_head, e)

    pub answer_ends_leading : a.ceases ≡ true → (answered_move m l a).local.head ≡ ceased_head (voting_head a.vote a.leader l.head)
    unfolding answered_move answered_head
    answer_ends_leading e = rw (answered_move, answered_head, e)

    -- where nothing is stored, the version stays
    pub answer_keeps_version : a.stores ≡ false → (answered_move m l a).local.version ≡ l.version
    unfolding answered_move pick_version
    answer_keeps_version e = rw (answered_move, pick_version, e)

    pub answer_stores_version : a.stores ≡ true → (answered_move m l a).local.version ≡ m.version
    unfolding answered_move pick_version
    answer_stores_version e = rw (answered_move, pick_version, e)

    -- the reply carries the kind that the move sends, and the version that it sends it under
    pub reply_sent : (me : ℕ)
        → reply_message me m a.kind l.version
        ≡ record {
          kind = (answered_move m l a).sends;
          sender = me;
          receiver = m.sender;
          bucket = m.bucket;
          election = m.election;
          round = m.round;
          version = (answered_move m l a).written;
        }
    unfolding answered_move
    reply_sent me = refl
