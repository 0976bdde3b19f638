-- A server handles a vote request: a fresh vote is a new entry of the log, and the reply claims no more than the log has.
use mathlib.Core.Path.{◌≡◌, refl, sym, ◌∙◌}
use mathlib.Core.Logic.{◌⊎◌, inl}
use mathlib.Core.Bool.{Bool, true, false}
use Prim.Native.Nat.{ℕ, ◌≤◌, ◌<◌}
use native.Mathlib.Omega.{arith}
use lib.Dec.{ltb, eqb}
use borrow.Author.Tests.{ltb-true, ltb-false, eqb-true}
use Rattle.model.specs.Cluster.{Stored, Server, ack_vote, nack_vote, Message}
use Rattle.model.specs.Replica.{voting, grants, after_vote}
use Rattle.model.specs.Leader.{with_stored, step_down, reply_to, replying, on_please_vote}
use Rattle.history.specs.Members.{◌∈◌}
use Rattle.history.proofs.MemberLaws.{first_in, each_cons}
use Rattle.consistency.proofs.Log.{Vote, Log}
use Rattle.consistency.proofs.Claims.{Won, MessageOk}
use Rattle.consistency.proofs.Invariant.{LogOk, StoredOk, ServerOk}
use Rattle.consistency.proofs.Growth.{holds_grows, adds_refl}
use Rattle.consistency.proofs.Acts.{add_vote, Kept}
use Rattle.consistency.proofs.Added.{adds_vote}
use Rattle.consistency.proofs.Extend.{vote_added}
use Rattle.consistency.proofs.Ceasing.{as_unsettled}
use Rattle.consistency.proofs.Replying.{StoredOnly, unsettled_after, replied}

-- ---- the rule, by cases

-- a vote under the number last voted under is given again to the same leader alone
granted_again : (e q : ℕ) (st : Stored) → (elim (eqb e st.vote) as (λ _. Bool) [ true ↦ eqb q st.leader | false ↦ false ]) ≡ true → (e ≡ st.vote) × (q ≡ st.leader)
granted_again e q st = go (eqb e st.vote) refl
  where
    go : (t : Bool) → eqb e st.vote ≡ t → (elim t as (λ _. Bool) [ true ↦ eqb q st.leader | false ↦ false ]) ≡ true → (e ≡ st.vote) × (q ≡ st.leader)
    go true h k = (eqb-true _ _ h, eqb-true _ _ k)
    go false h k = let z : ◌≡◌ {A = ℕ} 0 1 = cc in absurd (omega arith)

vote_cases : (e q : ℕ) (st : Stored) (P : Stored → Bool → Type 0) → (st.vote < e → P (voting e q st) true)
    → (e ≤ st.vote → (g : Bool) → (g ≡ true → (e ≡ st.vote) × (q ≡ st.leader)) → P st g)
    → P (after_vote e q st) (grants e q st)
unfolding after_vote grants
vote_cases e q st P fresh again = go (ltb st.vote e) refl
  where
    go : (t : Bool) → ltb st.vote e ≡ t
        → P (elim t [ true ↦ voting e q st | false ↦ st ])
        (elim t [ true ↦ true | false ↦ elim (eqb e st.vote) [ true ↦ eqb q st.leader | false ↦ false ] ])
    go true h = fresh (ltb-true _ _ h)
    go false h = again (ltb-false _ _ h) _ (granted_again e q st)

-- ---- a fresh vote

abbrev pub fresh_vote : ℕ → ℕ → ℕ → Vote
fresh_vote p e q = record { server = p; election = e; leader = q }

module _ (p e q : ℕ) (log : Log) where
  -- a server that votes for q under e, and whose number is k by then
  pub vote_stored : {st : Stored} → StoredOk log p st → (k : ℕ) → st.number ≤ k → k ≤ e → st.vote < e
      → StoredOk (add_vote (fresh_vote p e q) log) p (record { number = k; vote = e; leader = q; copies = st.copies })
  vote_stored h k i j l =
      record {
        number = j;
        votes = each_cons (λ f. omega arith) (λ x m f. omega (arith, h.votes x m f));
        voted = λ o. inl first_in;
        wins = λ x m f. omega (arith, h.wins x m f);
        copies = λ b. (holds_grows (adds_vote log (fresh_vote p e q)).grows (h.copies b).0, omega (arith, (h.copies b).1));
        accepts = λ x m f. ((h.accepts x m f).0, omega (arith, (h.accepts x m f).1));
        reports = λ x m f. omega (arith, h.reports x m f);
      }

  pub vote_fact : {n now taken : ℕ} → LogOk n now taken log → {st : Stored} → StoredOk log p st → st.vote < e → LogOk n now taken (add_vote (fresh_vote p e q) log)
  vote_fact ok h l = vote_added ok (fresh_vote p e q) (λ y m f. omega (arith, h.votes y m f))

-- ---- the rule keeps the invariant

module _ (n buckets now taken p : ℕ) (log : Log) (ok : LogOk n now taken log) (s : Server) (agrees : ServerOk n buckets log p s) (m : Message) (here : m.receiver ≡ p) (good : MessageOk buckets log m) where
  reply_ok : (next : Log) (g : Bool)
      → (g ≡ true → (record { server = p; election = m.election; leader = m.sender } ∈ next.votes) ⊎ Won next m.election m.sender)
      → MessageOk buckets next (reply_to p m (elim g [ true ↦ ack_vote | false ↦ nack_vote ]))
  reply_ok next true h = record { apart = λ e. good.apart (sym e ∙ sym here); positive = good.positive; claim = h refl }
  reply_ok next false h = record { apart = λ e. good.apart (sym e ∙ sym here); positive = good.positive; claim = tt }

  pub vote_kept : Kept n buckets now taken p log (on_please_vote p m s)
  unfolding on_please_vote
  vote_kept =
      vote_cases m.election m.sender s.stored
      (λ st g. Kept n buckets now taken p log (replying (step_down (with_stored s st)) (reply_to p m (elim g [ true ↦ ack_vote | false ↦ nack_vote ]))))
      (λ l.
      let x = fresh_vote p m.election m.sender in
      let next = add_vote x log in
      let st = voting m.election m.sender s.stored in
      let add = adds_vote log x in
      let same : StoredOnly log next = record { wins = refl; writes = refl; rounds = refl; begins = refl; ends = refl } in
      let k : StoredOk next p st = vote_stored p m.election m.sender log agrees.stored s.stored.number (omega arith) (omega (arith, agrees.stored.number)) l in
      replied n buckets p add same (vote_fact p m.election m.sender log ok agrees.stored l) (with_stored s st)
      (unsettled_after n buckets p add same s agrees st refl agrees.shape.copies k (λ v. absurd (omega (arith, agrees.stored.number))))
      _ (reply_ok next true (λ e. inl first_in)))
      (λ l g h.
      replied n buckets p (adds_refl p log) (record { wins = refl; writes = refl; rounds = refl; begins = refl; ends = refl }) ok s (as_unsettled agrees)
      _ (reply_ok log g (λ e.
      let t = h e in
      rw (t.0, t.1) (agrees.stored.voted (omega (arith, t.0, good.positive))))))
