-- A server is stopped, cut in the middle of what a message makes it store, or brought back. A cut stores a prefix of what handing the
-- message over stores, and is logged as far as that: a fresh vote is in the log with its store, and nothing is acknowledged.
use mathlib.Core.Path.{◌≡◌, refl, sym}
use mathlib.Core.List.{[]}
use mathlib.Core.Bool.{true}
use mathlib.Core.Option.{none}
use Prim.Native.Nat.{ℕ, ◌≤◌, ◌<◌}
use native.Mathlib.Omega.{arith}
use lib.ListN.{length, length-set, length-map, get_or-map}
use Rattle.model.specs.Cluster.{above, Copy, Stored, copy_at, Server, replica_write, replica_read, Message}
use Rattle.model.specs.Replica.{voting}
use Rattle.model.specs.Stores.{copy_store, put_store}
use Rattle.model.proofs.Stores.{cut_cases}
use Rattle.model.specs.Leader.{reaction, ceased, forgotten}
use Rattle.model.specs.Lines.{halted, cut_server, restarted}
use Rattle.history.proofs.MemberLaws.{none_in}
use Rattle.consistency.proofs.Log.{Log}
use Rattle.consistency.proofs.Claims.{Won, later, BodyOk, MessageOk}
use Rattle.consistency.proofs.Invariant.{LogOk, StoredOk, AnyServerOk}
use Rattle.consistency.proofs.Growth.{won_grows, Adds, adds_refl}
use Rattle.consistency.proofs.Acts.{KeptAny}
use Rattle.consistency.proofs.Added.{adds_vote}
use Rattle.consistency.proofs.Above.{above_lt}
use Rattle.consistency.proofs.Voting.{fresh_vote, vote_stored, vote_fact}
use Rattle.consistency.proofs.Storing.{heeded_stored, copy_stored}

module _ (n buckets now taken p : ℕ) (log : Log) (ok : LogOk n now taken log) (s : Server) (agrees : AnyServerOk n buckets log p s) where
  -- stopped, with what it stores by then
  stopped_with : (next : Log) → Adds p log next → LogOk n now taken next → next.begins ≡ log.begins → next.ends ≡ log.ends
      → (st : Stored) → StoredOk next p st → st.number ≡ s.stored.number → length st.copies ≡ length s.stored.copies
      → KeptAny n buckets now taken p log (reaction (record { stored = st; volatile = s.volatile; stopped = true }) [] [])
  stopped_with next add facts e f st k i j =
      record {
        next = next;
        adds = add;
        facts = facts;
        server =
            record {
              shape = record { copies = rw j agrees.shape.copies; votes = agrees.shape.votes; rounds = agrees.shape.rounds; calls = agrees.shape.calls };
              stored = k;
              won = λ l. rw i (won_grows add.grows (agrees.won l));
              calls = λ b c x. let o = agrees.calls b c x in record { line = o.line; begun = add.grows.begins _ o.begun; unended = rw f o.unended };
              role = λ x. let z : ◌≡◌ {A = ℕ} 0 1 = cc in absurd (omega arith);
            };
        sends = λ m x. none_in x;
        begins = e;
        ends = λ x. rw f (λ y. y, λ y. y);
      }

  -- with nothing logged
  stopped_still : (st : Stored) → StoredOk log p st → st.number ≡ s.stored.number → length st.copies ≡ length s.stored.copies
      → KeptAny n buckets now taken p log (reaction (record { stored = st; volatile = s.volatile; stopped = true }) [] [])
  stopped_still st k i j = stopped_with log (adds_refl p log) ok refl refl st k i j

  pub stop_kept : KeptAny n buckets now taken p log (reaction (halted s) [] [])
  stop_kept = stopped_still s.stored agrees.stored refl refl

  pub start_kept : KeptAny n buckets now taken p log (reaction (restarted s) [] [])
  unfolding forgotten ceased
  start_kept =
      record {
        next = log;
        adds = adds_refl p log;
        facts = ok;
        server =
            record {
              shape = record { copies = agrees.shape.copies; votes = simp length-map agrees.shape.votes; rounds = simp length-map agrees.shape.rounds; calls = simp length-map agrees.shape.calls };
              stored = agrees.stored;
              won = λ l. let z : ◌≡◌ {A = ℕ} 0 1 = cc in absurd (omega arith);
              calls = λ b c x. let z : ◌≡◌ {A = ℕ} 0 1 = cc (get_or-map (λ y. none) s.volatile.calls b none) in absurd (omega arith);
              role = λ x b. (get_or-map (λ y. none) s.volatile.rounds b none, get_or-map (λ y. none) s.volatile.calls b none);
            };
        sends = λ m x. none_in x;
        begins = refl;
        ends = λ x. (λ y. y, λ y. y);
      }

  module _ (m : Message) (good : MessageOk buckets log m) where
    -- the server, stopped with this stored
    abbrev StoppedWith : Stored → Type 0
    StoppedWith st = KeptAny n buckets now taken p log (reaction (record { stored = st; volatile = s.volatile; stopped = true }) [] [])

    abbrev voted : Stored
    voted = voting m.election m.sender s.stored

    -- a fresh vote is in the log with its store
    fresh_vote_lem : s.stored.vote < m.election → StoppedWith voted
    fresh_vote_lem l =
        stopped_with _ (adds_vote log (fresh_vote p m.election m.sender)) (vote_fact p m.election m.sender log ok agrees.stored l) refl refl voted
        (vote_stored p m.election m.sender log agrees.stored s.stored.number (omega arith) (omega (arith, agrees.stored.number)) l) refl refl

    module _ (c : Copy) (body : m.body ≡ replica_write c) where
      claim : BodyOk buckets log m (replica_write c)
      claim = rw body at good.claim

      -- the bucket, where the vote is the number of the write
      newer_copy : above c.version (copy_at s.stored m.bucket).version ≡ true → (st : Stored) → StoredOk log p st
          → st.vote ≡ m.election → st.number ≡ s.stored.number → st.copies ≡ s.stored.copies → StoppedWith (put_store (copy_store m.bucket c) st)
      unfolding put_store
      newer_copy newer st h e i j =
          stopped_still _
          (copy_stored p m.bucket c log st h (omega (arith, claim.1)) (rw (j, agrees.shape.copies) claim.8)
          (later claim.2 claim.3 claim.4 claim.5 claim.6) (rw j (above_lt _ _ newer)))
          i (rw (length-set, j) refl)

    -- the number of a leader that is heeded becomes the vote: nothing is logged for that
    heeded : s.stored.vote ≤ m.election → Won log m.election m.sender → StoredOk log p voted
    heeded l won = heeded_stored agrees.stored l won

    pub cut_kept : (k : ℕ) → KeptAny n buckets now taken p log (reaction (cut_server k m s) [] [])
    cut_kept k =
        cut_cases m s.stored StoppedWith stop_kept (λ e l. fresh_vote_lem l)
        (λ e l. let c : BodyOk buckets log m replica_read = rw e at good.claim in stopped_still voted (heeded l c.0) refl refl)
        (λ c e l. stopped_still voted (heeded l (claim c e).0) refl refl)
        (λ c e newer i. newer_copy c e newer s.stored agrees.stored (sym i) refl refl)
        (λ c e newer l. newer_copy c e newer voted (heeded l (claim c e).0) refl refl refl) k
