-- A server handles a message: every kind keeps the invariant.
use mathlib.Core.Path.{◌≡◌, refl}
use mathlib.Core.List.{[]}
use Prim.Native.Nat.{ℕ}
use Rattle.model.specs.Cluster.{Server, Body, please_vote, ack_vote, nack_vote, replica_write, ack_write, nack_write, replica_read, ack_read, nack_read, Message, fresh_copy, acknowledged, refused}
use Rattle.model.specs.Replica.{reading, writing}
use Rattle.model.specs.Leader.{Reaction, no_reaction, on_ack_vote, on_please_vote, on_request, on_reply, handle}
use Rattle.history.proofs.MemberLaws.{none_in}
use Rattle.consistency.proofs.Log.{Log}
use Rattle.consistency.proofs.Claims.{MessageOk}
use Rattle.consistency.proofs.Invariant.{LogOk, ServerOk}
use Rattle.consistency.proofs.Acts.{Kept}
use Rattle.consistency.proofs.Chaining.{unmoved}
use Rattle.consistency.proofs.Voting.{vote_kept}
use Rattle.consistency.proofs.Requests.{read_kept, write_kept}
use Rattle.consistency.proofs.Electing.{ackvote_kept}
use Rattle.consistency.proofs.Replies.{reply_kept, refused_reply, write_reply, read_reply}

module _ (n buckets now taken : ℕ) {log : Log} (ok : LogOk n now taken log) {s : Server} (m : Message)
    (agrees : ServerOk n buckets log m.receiver s) (good : MessageOk buckets log m) where
  by_body : (body : Body) → m.body ≡ body
      → Kept n buckets now taken m.receiver log
      (elim body as (λ _. Reaction) [
        | please_vote ↦ on_please_vote m.receiver m s
        | ack_vote ↦ on_ack_vote n m.sender m.election s
        | nack_vote ↦ no_reaction s
        | replica_write c ↦ on_request m.receiver m (writing c) s
        | ack_write ↦ on_reply n m.receiver m acknowledged fresh_copy s
        | nack_write ↦ on_reply n m.receiver m refused fresh_copy s
        | replica_read ↦ on_request m.receiver m reading s
        | ack_read c ↦ on_reply n m.receiver m acknowledged c s
        | nack_read ↦ on_reply n m.receiver m refused fresh_copy s
      ])
  by_body please_vote e = vote_kept n buckets now taken m.receiver log ok s agrees m refl good
  by_body ack_vote e = ackvote_kept n buckets now taken m.receiver log ok s agrees m refl good e
  by_body nack_vote e = unmoved ok agrees [] (λ x i. none_in i)
  by_body (replica_write c) e = write_kept n buckets now taken m.receiver log ok s agrees m refl good c e
  by_body ack_write e = reply_kept n buckets now taken m.receiver ok agrees m acknowledged fresh_copy (write_reply ok m good e)
  by_body nack_write e = reply_kept n buckets now taken m.receiver ok agrees m refused fresh_copy (refused_reply ok m good)
  by_body replica_read e = read_kept n buckets now taken m.receiver log ok s agrees m refl good e
  by_body (ack_read c) e = reply_kept n buckets now taken m.receiver ok agrees m acknowledged c (read_reply ok m good c e)
  by_body nack_read e = reply_kept n buckets now taken m.receiver ok agrees m refused fresh_copy (refused_reply ok m good)

  pub handle_kept : Kept n buckets now taken m.receiver log (handle n m.receiver m s)
  unfolding handle
  handle_kept = by_body m.body refl
