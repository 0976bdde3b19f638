-- The votes and marks of a local have seven places, as read from the memory and after each move.
use mathlib.Core.Path.{◌≡◌, refl, ◌∙◌}
use mathlib.Core.Bool.{Bool, true, false}
use mathlib.Core.List.{[]}
use Prim.Native.Nat.{ℕ}
use lib.Dec.{eqb, ltb, leb}
use lib.ListN.{length, get_or, replicate, take, length-set}
use Rattle.model.specs.Replica.{may_accept}
use Rattle.model.specs.Leader.{acts, closes, fails}
use Rattle.server.specs.declared.Version.{Version}
use Rattle.server.specs.declared.Head.{Head}
use Rattle.server.specs.declared.Round.{Round}
use Rattle.server.specs.declared.Counted.{Counted}
use Rattle.server.specs.declared.Message.{Message}
use Rattle.server.specs.declared.Handling.{Handling}
use Rattle.server.specs.declared.Handling.TheVariants.{Vote, Request, Reply, Other}
use Rattle.server.specs.Views.{mark_in, open_in, round_in, stored_in, role_in}
use Rattle.server.specs.Heads.{after_vote_head, elected_head, on_ack_vote_head}
use Rattle.rounds.specs.Rounds.{is_silent, new_round_of, counted_of, matching}
use Rattle.rounds.specs.Kinds.{handling_in}
use Rattle.memory.specs.Layout.{server_room, head_at, round_at}
use Rattle.moves.specs.declared.Local.{Local}
use Rattle.moves.specs.declared.Move.{Move}
use Rattle.moves.specs.Moves.{
  recovered,
  reading_move,
  writing_move,
  finished_move,
  after_read_move,
  closed_move,
  started_move,
  recovered_alone,
  ready_alone,
  read_alone,
  alone_move,
  new_call,
  with_call,
  with_round,
  begun_move,
  quiet,
  ceasing,
  stepped_down,
  fetching,
  counted_move,
  reply_move,
  vote_move,
  read_request_move,
  write_request_move,
  request_move,
  voting_move,
  handling_move,
  handled_move,
  elected_move,
  ceased_move,
  stopped_move,
}
use Rattle.restarts.specs.Restarts.{restarted_move, votes_by, cut_head, cut_move}
use Rattle.views.specs.Memory.{Memory, WholeLocal, local_at}

-- what holds of both cases
either : {A : Type 0} (P : A → Type 0) (t : Bool) (x y : A) → P x → P y → P (elim t [ true ↦ x | false ↦ y ])
either P true x y a b = a
either P false x y a b = b

-- ---- as read

pub whole_at : (m : Memory) (s k : ℕ) → WholeLocal (local_at m s k)
unfolding head_at round_at
whole_at m s k = record { votes = refl; marks = refl }

-- ---- heads and rounds

abbrev WholeHead : Head → Type 0
WholeHead h = length h.votes ≡ server_room

abbrev WholeRound : Round → Type 0
WholeRound r = length r.marks ≡ server_room

whole_after_vote : (e p : ℕ) (h : Head) → WholeHead h → WholeHead (after_vote_head e p h)
unfolding after_vote_head
whole_after_vote e p h w = w

whole_elected : (n me : ℕ) (h : Head) → WholeHead (elected_head n me h)
unfolding elected_head
whole_elected n me h = length-set (replicate 7 0) me 1

whole_ack_vote : (n q e : ℕ) (h : Head) → WholeHead h → WholeHead (on_ack_vote_head n q e h)
unfolding on_ack_vote_head
whole_ack_vote n q e h w =
    either WholeHead (eqb h.role 1) _ _ (either WholeHead (eqb e h.number) _ _ (length-set h.votes q 1 ∙ w) w) w

whole_new_round : (me purpose : ℕ) (h : Head) (v : Version) → WholeRound (new_round_of me purpose h v)
whole_new_round me purpose h v = length-set (replicate 7 0) me 1

whole_counted : (n q mark : ℕ) (report : Version) (r : Round) → WholeRound r → WholeRound (counted_of n q mark report r).round
unfolding counted_of
whole_counted n q mark report r w =
    either (λ (c : Counted). WholeRound c.round) (is_silent (mark_in (get_or (take n r.marks) q 2))) _ _ (length-set r.marks q mark ∙ w) w

-- ---- moves

abbrev WholeMove : Move → Type 0
WholeMove v = WholeLocal v.local

whole_finished : (result : ℕ) (l : Local) → WholeLocal l → WholeMove (finished_move result l)
unfolding finished_move
whole_finished result l w = record { votes = w.votes; marks = refl }

module _ (me : ℕ) where
  whole_reading : (purpose : ℕ) (l : Local) → WholeLocal l → WholeMove (reading_move me purpose l)
  unfolding reading_move
  whole_reading purpose l w = record { votes = w.votes; marks = whole_new_round me purpose l.head l.version }

  whole_writing : (purpose : ℕ) (v : Version) (l : Local) → WholeLocal l → WholeMove (writing_move me purpose v l)
  unfolding writing_move
  whole_writing purpose v l w = record { votes = w.votes; marks = whole_new_round me purpose l.head l.version }

  whole_after_read : (result : ℕ) (l : Local) → WholeLocal l → WholeMove (after_read_move me result l)
  unfolding after_read_move
  whole_after_read result l w = either WholeMove (eqb result 0) _ _ (whole_writing 4 _ l w) (whole_finished result l w)

  whole_closed : (result : ℕ) (l : Local) → WholeLocal l → WholeMove (closed_move me result l)
  unfolding closed_move
  whole_closed result l w =
      either WholeMove (eqb l.round.purpose 1) _ _ (whole_writing 2 _ l w)
      (either WholeMove (eqb l.round.purpose 2) _ _ (whole_reading 3 l w)
      (either WholeMove (eqb l.round.purpose 3) _ _ (whole_after_read result l w) (whole_finished 3 l w)))

  whole_started : (result : ℕ) (l : Local) → WholeLocal l → WholeMove (started_move me result l)
  unfolding started_move
  whole_started result l w =
      either WholeMove (recovered l) _ _ (either WholeMove (eqb result 0) _ _ (whole_writing 4 _ l w) (whole_reading 3 l w)) (whole_reading 1 l w)

  whole_recovered_alone : (l : Local) → WholeLocal l → WholeLocal (recovered_alone me l)
  unfolding recovered_alone
  whole_recovered_alone l w = either WholeLocal (recovered l) _ _ w (whole_writing 2 _ _ (whole_reading 1 l w))

  whole_read_alone : (l : Local) → WholeLocal l → WholeLocal (read_alone me l)
  whole_read_alone l w = whole_reading 3 _ (whole_recovered_alone l w)

  whole_ready_alone : (l : Local) → WholeLocal l → WholeLocal (ready_alone me l)
  unfolding ready_alone
  whole_ready_alone l w = either WholeLocal (recovered l) _ _ w (whole_read_alone l w)

  whole_alone : (result : ℕ) (l : Local) → WholeLocal l → WholeMove (alone_move me result l)
  unfolding alone_move
  whole_alone result l w =
      either WholeMove (eqb result 0) _ _ (whole_finished 3 _ (whole_writing 4 _ _ (whole_ready_alone l w))) (whole_finished result _ (whole_read_alone l w))

-- ---- calls, at one of n servers

pub whole_begun : (n me i kind result : ℕ) (l : Local) → WholeLocal l → WholeLocal (begun_move n me i kind result l).local
unfolding begun_move
whole_begun n me i kind result l w =
    let c : WholeLocal (with_call (new_call kind i) l) = record { votes = w.votes; marks = w.marks } in
    either WholeMove (leb n 1) _ _ (whole_alone me result _ c) (whole_started me result _ c)

-- ---- messages

whole_ceasing : (v : Move) → WholeMove v → WholeMove (ceasing v)
whole_ceasing v w = record { votes = refl; marks = w.marks }

whole_stepped_down : (v : Move) → WholeMove v → WholeMove (stepped_down v)
unfolding stepped_down
whole_stepped_down v w =
    either WholeMove (acts (role_in v.local.head.role)) _ _ (either WholeMove (ltb v.local.head.number v.local.head.vote) _ _ (whole_ceasing v w) w) w

whole_fetching : (better : Bool) (v : Move) → WholeMove v → WholeMove (fetching better v)
unfolding fetching
whole_fetching better v w = w

module _ (n me result : ℕ) (m : Message) (l : Local) (w : WholeLocal l) where
  whole_counted_move : (k : Counted) → WholeRound k.round → WholeMove (counted_move n me result k l)
  unfolding counted_move
  whole_counted_move k r =
      let counted : WholeLocal (with_round k.round l) = record { votes = w.votes; marks = r } in
      either WholeMove (closes n (open_in n k.round [])) _ _ (whole_fetching k.better _ (whole_closed me result _ counted))
      (either WholeMove (fails n (open_in n k.round [])) _ _ (whole_ceasing (quiet l) w) (whole_fetching k.better (quiet (with_round k.round l)) counted))

  whole_reply : (mark : ℕ) (report : Version) → WholeMove (reply_move n me result mark report m l)
  unfolding reply_move
  whole_reply mark report =
      either WholeMove (matching m.election m.round (round_in n l.round [])) _ _
      (whole_counted_move (counted_of n m.sender mark report l.round) (whole_counted n m.sender mark report l.round w.marks)) w

  whole_vote : WholeMove (vote_move m l)
  unfolding vote_move
  whole_vote = whole_stepped_down _ (record { votes = whole_after_vote m.election m.sender l.head w.votes; marks = w.marks })

  whole_request : (writes : Bool) → WholeMove (request_move writes m l)
  unfolding request_move
  whole_request writes =
      let same : WholeMove (read_request_move m l) = record { votes = w.votes; marks = w.marks } in
      let stored : WholeMove (write_request_move m l) = record { votes = w.votes; marks = w.marks } in
      either WholeMove (may_accept m.election (stored_in l.head [])) _ _ (whole_stepped_down _ (either WholeMove writes _ _ stored same)) w

  whole_voting : (kind : ℕ) → WholeMove (voting_move n kind m l)
  unfolding voting_move
  whole_voting kind =
      either WholeMove (eqb kind 1) _ _ whole_vote
      (either WholeMove (eqb kind 2) _ _ (record { votes = whole_ack_vote n m.sender m.election l.head w.votes; marks = w.marks }) w)

  whole_handling : (x : Handling) → WholeMove (handling_move n me result m l x)
  unfolding handling_move
  whole_handling (Vote kind) = whole_voting kind
  whole_handling (Request writes) = whole_request writes
  whole_handling (Reply mark reports) = whole_reply mark _
  whole_handling Other = w

  pub whole_handled : WholeLocal (handled_move n me result m l).local
  unfolding handled_move
  whole_handled = whole_handling (handling_in m.kind)

-- ---- lines that name a server

pub whole_elected_move : (n me : ℕ) (l : Local) → WholeLocal l → WholeLocal (elected_move n me l).local
unfolding elected_move
whole_elected_move n me l w = record { votes = whole_elected n me l.head; marks = w.marks }

pub whole_ceased : (l : Local) → WholeLocal l → WholeLocal (ceased_move l).local
whole_ceased l w = whole_ceasing (quiet l) w

pub whole_restarted : (l : Local) → WholeLocal l → WholeLocal (restarted_move l).local
unfolding restarted_move
whole_restarted l w = record { votes = refl; marks = w.marks }

pub whole_cut : (k : ℕ) (m : Message) (l : Local) → WholeLocal l → WholeLocal (cut_move k m l).local
unfolding cut_move cut_head
whole_cut k m l w = record { votes = either WholeHead (votes_by k m l.head) _ _ w.votes w.votes; marks = w.marks }

pub whole_stopped : (l : Local) → WholeLocal l → WholeLocal (stopped_move l).local
whole_stopped l w = record { votes = w.votes; marks = w.marks }
