-- A server handles a leader's request: below its vote it refuses; otherwise it takes over the leader's number as its vote, reports
-- its copy or stores the version, and acknowledges.
use mathlib.Core.Path.{◌≡◌, refl, sym, ◌∙◌}
use mathlib.Core.List.{[], ◌∷◌}
use mathlib.Core.Bool.{Bool, true, false}
use Prim.Native.Nat.{ℕ, ◌≤◌}
use native.Mathlib.Omega.{arith}
use lib.Dec.{ltb}
use borrow.Author.Tests.{ltb-false}
use Rattle.model.specs.Cluster.{Copy, copy_at, Server, Body, replica_write, replica_read, Message}
use Rattle.model.specs.Replica.{voting, Request, reading, writing, may_accept, storing, accepting, acknowledging, refusing}
use Rattle.model.specs.Leader.{reaction, with_stored, step_down, reply_to, replying, on_request}
use Rattle.history.proofs.MemberLaws.{first_in, none_in, each_cons}
use Rattle.consistency.proofs.Log.{Log}
use Rattle.consistency.proofs.Claims.{Won, later, BodyOk, MessageOk}
use Rattle.consistency.proofs.Invariant.{LogOk, ServerOk}
use Rattle.consistency.proofs.Growth.{round_grows, holds_grows, one_winner}
use Rattle.consistency.proofs.Acts.{add_accept, add_report, Kept}
use Rattle.consistency.proofs.Added.{adds_accept, adds_report}
use Rattle.consistency.proofs.Extend.{accept_added, report_added}
use Rattle.consistency.proofs.Chaining.{unmoved}
use Rattle.consistency.proofs.Replying.{StoredOnly, unsettled_after, replied}
use Rattle.consistency.proofs.Storing.{heeded_stored, storing_keeps, acceptance, accept_stored, reporting, report_stored}

module _ (n buckets now taken p : ℕ) (log : Log) (ok : LogOk n now taken log) (s : Server) (agrees : ServerOk n buckets log p s)
    (m : Message) (here : m.receiver ≡ p) (good : MessageOk buckets log m) where
  -- a reply goes to another server, under the request's number
  reply_ok : (next : Log) (body : Body) → BodyOk buckets next (reply_to p m body) body → MessageOk buckets next (reply_to p m body)
  reply_ok next body claim = record { apart = λ e. good.apart (sym e ∙ sym here); positive = good.positive; claim = claim }

  refused_ok : (request : Request) → MessageOk buckets log (reply_to p m (refusing request))
  unfolding refusing
  refused_ok reading = reply_ok log _ tt
  refused_ok (writing c) = reply_ok log _ tt

  -- a request that is heeded is all that needs a proof
  heeding : (request : Request)
      → (s.stored.vote ≤ m.election →
      let st = accepting m.bucket m.election m.sender request s.stored in
      Kept n buckets now taken p log (replying (step_down (with_stored s st)) (reply_to p m (acknowledging m.bucket request st))))
      → Kept n buckets now taken p log (on_request p m request s)
  unfolding on_request may_accept
  heeding request accepted = go (ltb m.election s.stored.vote) refl
    where
      go : (t : Bool) → ltb m.election s.stored.vote ≡ t → Kept n buckets now taken p log (elim (elim t as (λ _. Bool) [ true ↦ false | false ↦ true ]) [
        | false ↦ reaction s (reply_to p m (refusing request) ∷ []) []
        | true ↦
            let st = accepting m.bucket m.election m.sender request s.stored in
            replying (step_down (with_stored s st)) (reply_to p m (acknowledging m.bucket request st))
      ])
      go true e = unmoved ok agrees _ (each_cons (refused_ok request) (λ x i. none_in i))
      go false e = accepted (ltb-false _ _ e)

  -- a leader is not asked under its own number: only the server that won a number asks under it
  not_own : Won log m.election m.sender → s.stored.vote ≤ m.election → m.election ≤ s.stored.number → Won log s.stored.number p → ⊥
  not_own won l k mine =
      let e : s.stored.number ≡ m.election = omega (arith, agrees.stored.number) in
      good.apart (one_winner n ok.votes won (rw e at mine) ∙ sym here)

  pub read_kept : m.body ≡ replica_read → Kept n buckets now taken p log (on_request p m reading s)
  unfolding accepting acknowledging
  read_kept body =
      heeding reading (λ l.
      let claim : BodyOk buckets log m replica_read = rw body at good.claim in
      let st = voting m.election m.sender s.stored in
      let v = (copy_at s.stored m.bucket).version in
      let add = adds_report log (reporting p m.bucket m.election m.round v) in
      let h = agrees.stored in
      let same : StoredOnly log (add_report (reporting p m.bucket m.election m.round v) log)
      = record { wins = refl; writes = refl; rounds = refl; begins = refl; ends = refl } in
      let o = claim.2 in
      replied n buckets p add same
      (report_added ok _ o.opened o.had o.election o.number (omega (arith, (h.copies m.bucket).1))
      (λ a i e f. rw f at (h.accepts a i e).0) (λ x i e. omega (arith, h.votes x i e)))
      (with_stored s st)
      (unsettled_after n buckets p add same s agrees st refl agrees.shape.copies
      (report_stored p m.bucket m.election m.round v log st (heeded_stored h l claim.0) (omega arith))
      (λ k. not_own claim.0 l k))
      _ (reply_ok _ _ (claim.1, round_grows add.grows o, first_in, holds_grows add.grows (h.copies m.bucket).0)))

  pub write_kept : (c : Copy) → m.body ≡ replica_write c → Kept n buckets now taken p log (on_request p m (writing c) s)
  unfolding accepting acknowledging
  write_kept c body =
      heeding (writing c) (λ l.
      let claim : BodyOk buckets log m (replica_write c) = rw body at good.claim in
      let before = voting m.election m.sender s.stored in
      let st = storing m.bucket c before in
      let keeps = storing_keeps m.bucket c before in
      let add = adds_accept log (acceptance p m.bucket c.version) in
      let h = agrees.stored in
      let same : StoredOnly log (add_accept (acceptance p m.bucket c.version) log)
      = record { wins = refl; writes = refl; rounds = refl; begins = refl; ends = refl } in
      replied n buckets p add same
      (accept_added ok _ claim.2 claim.3 claim.4 claim.5 (λ r i e. omega (arith, h.reports r i e, claim.1)))
      (with_stored s st)
      (unsettled_after n buckets p add same s agrees st keeps.0 (keeps.2 ∙ agrees.shape.copies)
      (accept_stored p m.bucket c log before (heeded_stored h l claim.0) (omega (arith, claim.1)) (rw agrees.shape.copies claim.8)
      (later claim.2 claim.3 claim.4 claim.5 claim.6))
      (λ k. not_own claim.0 l (omega (arith, keeps.0, keeps.1))))
      _ (reply_ok _ _ (c.version, round_grows add.grows claim.7, first_in)))
