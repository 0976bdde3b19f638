-- Each step of a server goes onward (Onward.antt).
use mathlib.Core.Path.{◌≡◌, refl}
use mathlib.Core.Logic.{inl, inr}
use mathlib.Core.List.{List, [], ◌∷◌}
use mathlib.Core.Bool.{Bool, true, false}
use mathlib.Core.Option.{Option, none, some}
use Prim.Native.Nat.{ℕ}
use native.Mathlib.Omega.{arith}
use lib.Dec.{eqb}
use lib.ListN.{set}
use Rattle.model.specs.Cluster.{Copy, fresh_copy, Stored, Role, follower, candidate, leading, Mark, acknowledged, refused, Round, round_at, Server, Body, please_vote, ack_vote, nack_vote, replica_write, ack_write, nack_write, replica_read, ack_read, nack_read, Message}
use Rattle.model.specs.Replica.{Request, reading, writing, may_accept, acknowledging, refusing}
use Rattle.model.specs.Leader.{Reaction, reaction, no_reaction, after, with_stored, with_round, endings, cease, step_down, standing, elect, on_ack_vote, closes, fails, new_round, opening, open_round, answer_of, finish, applying, after_read, checking, recovering, recovered, start_read, start_call, begin_call, closed, counted, counting, on_reply, on_please_vote, on_request, handle}
use Rattle.model.specs.Leader
use Rattle.model.proofs.Elections.{above_the_number, always_stands}
use Rattle.model.proofs.Replicas.{step_down_cases}
use Rattle.history.proofs.VersionLaws.{le_refl}
use Rattle.consistency.proofs.Onward.{Onward, onward_trans, Renewed, accepting_renews, vote_renews, renewed, still, closed_moves, Goes, going, cease_goes}

-- what is stored is renewed, then the server may cease
step_down_goes : (s : Server) (st : Stored) → Renewed s.stored st → (ms : List Message) → Goes s (reaction (step_down (with_stored s st)).server ms (step_down (with_stored s st)).answers)
step_down_goes s st h ms =
    let on : Onward s (with_stored s st) = renewed s h refl in
    let stays : Goes s (reaction (with_stored s st) ms []) = record { onward = on; answers = inl (omega arith) } in
    step_down_cases (with_stored s st) (λ r. Goes s (reaction r.server ms r.answers))
    (λ e f. let g = cease_goes (with_stored s st) in record { onward = onward_trans on g.onward; answers = g.answers }) (λ f. stays) (λ e. stays)

pub elect_goes : (n me : ℕ) (s : Server) → Goes s (elect n me s)
unfolding cease
elect_goes n me s =
    let up = above_the_number s.stored in
    rw (always_stands n me s) (record { onward = record { number = omega arith; role = λ e. absurd (omega arith); copies = λ k. le_refl _ }; answers = inr refl })

ackvote_goes : (n q e : ℕ) (s : Server) → Goes s (on_ack_vote n q e s)
unfolding on_ack_vote
ackvote_goes n q e s = go s.volatile.role refl (eqb e s.stored.number)
  where
    go : (r : Role) → s.volatile.role ≡ r → (t : Bool) → Goes s (elim r [
      | follower ↦ no_reaction s
      | leading ↦ no_reaction s
      | candidate ↦ elim t [ false ↦ no_reaction s | true ↦ no_reaction (Leader.with_volatile s (standing n (set s.volatile.votes q true) s.volatile)) ]
    ])
    go follower i t = going (still s [])
    go leading i t = going (still s [])
    go candidate i false = going (still s [])
    go candidate i true = record { onward = record { number = omega arith; role = λ e. rw i (omega arith); copies = λ k. le_refl _ }; answers = inl (omega arith) }

module _ (n me : ℕ) (m : Message) where
  counting_goes : (b : ℕ) (r : Round) (s : Server) → Goes s (counting n me b r s)
  unfolding counting
  counting_goes b r s = go (closes n r) (fails n r)
    where
      with_round_lem : Onward s (with_round s b r)
      with_round_lem = record { number = omega arith; role = λ e. omega arith; copies = λ k. le_refl _ }

      go : (t u : Bool) → Goes s (elim t [ true ↦ closed n me b r (with_round s b r) | false ↦ elim u [ true ↦ cease s | false ↦ no_reaction (with_round s b r) ] ])
      go true u = let g = closed_moves n me b r (with_round s b r) in record { onward = onward_trans with_round_lem g.onward; answers = inl g.one }
      go false true = cease_goes s
      go false false = record { onward = with_round_lem; answers = inl (omega arith) }

  reply_goes : (mark : Mark) (report : Copy) (s : Server) → Goes s (on_reply n me m mark report s)
  unfolding on_reply
  reply_goes mark report s = by_round (round_at s.volatile m.bucket)
    where
      by_number : (r : Round) (t u : Bool)
          → Goes s (elim t [ false ↦ no_reaction s | true ↦ elim u [ false ↦ no_reaction s | true ↦ counting n me m.bucket (counted m.sender mark report r) s ] ])
      by_number r false u = going (still s [])
      by_number r true false = going (still s [])
      by_number r true true = counting_goes m.bucket (counted m.sender mark report r) s

      by_round : (o : Option Round) → Goes s (elim o [
        | none ↦ no_reaction s
        | some r ↦ elim (eqb m.election r.election) [
          | false ↦ no_reaction s
          | true ↦ elim (eqb m.round r.number) [ false ↦ no_reaction s | true ↦ counting n me m.bucket (counted m.sender mark report r) s ]
        ]
      ])
      by_round none = going (still s [])
      by_round (some r) = by_number r (eqb m.election r.election) (eqb m.round r.number)

  request_goes : (request : Request) (s : Server) → Goes s (on_request me m request s)
  unfolding on_request
  request_goes request s = go (may_accept m.election s.stored) _ (accepting_renews m.bucket m.election m.sender request s.stored)
    where
      go : (t : Bool) (st : Stored) → Renewed s.stored st → Goes s (elim t [
        | false ↦ reaction s (Leader.reply_to me m (refusing request) ∷ []) []
        | true ↦ Leader.replying (step_down (with_stored s st)) (Leader.reply_to me m (acknowledging m.bucket request st))
      ])
      go false st h = going (still s _)
      go true st h = step_down_goes s st h _

  vote_goes : (s : Server) → Goes s (on_please_vote me m s)
  unfolding on_please_vote
  vote_goes s = step_down_goes s _ (vote_renews m.election m.sender s.stored) _

  pub handle_goes : (s : Server) → Goes s (handle n me m s)
  unfolding handle
  handle_goes s = go m.body
    where
      go : (body : Body) → Goes s (elim body as (λ _. Reaction) [
        | please_vote ↦ on_please_vote me m s
        | ack_vote ↦ on_ack_vote n m.sender m.election s
        | nack_vote ↦ no_reaction s
        | replica_write c ↦ on_request me m (writing c) s
        | ack_write ↦ on_reply n me m acknowledged fresh_copy s
        | nack_write ↦ on_reply n me m refused fresh_copy s
        | replica_read ↦ on_request me m reading s
        | ack_read c ↦ on_reply n me m acknowledged c s
        | nack_read ↦ on_reply n me m refused fresh_copy s
      ])
      go please_vote = vote_goes s
      go ack_vote = ackvote_goes n m.sender m.election s
      go nack_vote = going (still s [])
      go (replica_write c) = request_goes (writing c) s
      go ack_write = reply_goes acknowledged fresh_copy s
      go nack_write = reply_goes refused fresh_copy s
      go replica_read = request_goes reading s
      go (ack_read c) = reply_goes acknowledged c s
      go nack_read = reply_goes refused fresh_copy s
