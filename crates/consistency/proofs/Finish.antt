-- A call ends at a leader, and the leader goes on.
use mathlib.Core.Path.{◌≡◌, refl, sym, ap}
use mathlib.Core.Logic.{◌≢◌}
use mathlib.Core.Option.{none}
use Prim.Native.Nat.{ℕ}
use lib.ListN.{length-set}
use lib.Seq.{get_or-set_same, get_or-set_other}
use Rattle.model.specs.Calls.{Result}
use Rattle.model.specs.Cluster.{copy_at, Call, round_at, call_at, Server}
use Rattle.model.specs.Leader.{answer_of, finish}
use Rattle.history.proofs.MemberLaws.{none_in, each_cons}
use Rattle.consistency.proofs.Log.{Ended, Log}
use Rattle.consistency.proofs.Claims.{Chosen}
use Rattle.consistency.proofs.Invariant.{LogOk, EndOk, CallOk}
use Rattle.consistency.proofs.Growth.{chosen_grows, Adds}
use Rattle.consistency.proofs.Buckets.{Untouched, bucket_grows}
use Rattle.consistency.proofs.Acts.{add_ended, Kept}
use Rattle.consistency.proofs.Added.{adds_ended}
use Rattle.consistency.proofs.Extend.{ended_added}
use Rattle.consistency.proofs.Ready.{Leads, leads_carried, Ready, Bucket, leader_agrees, each_place}

-- a leader that adds nothing to what it stores agrees with a log that only ends calls or closes checks
module _ {n buckets now taken p b : ℕ} {log : Log} (ok : LogOk n now taken log) {c : Call} {s : Server} (h : Ready n buckets log p b c s)
    (r : Result) (rest : (copy_at s.stored b).version.election ≡ s.stored.number → Chosen n log b (copy_at s.stored b).version)
    (end : EndOk n log (record { number = c.number; result = r; line = now })) where
  abbrev ending : Ended
  ending = record { number = c.number; result = r; line = now }

  abbrev end_log : Log
  end_log = add_ended ending log

  adds : Adds p log end_log
  adds = adds_ended log p ending (_, h.call.begun, refl, refl)

  -- a call on another bucket is another call
  untouched : (j : ℕ) → j ≢ b → (y : Call) → CallOk log p j y → Untouched log end_log y.number
  untouched j d y k =
      record {
        unwritten = λ f. f;
        unended = λ f.
            each_cons {P = λ x. x.number ≡ y.number → ⊥}
            (λ i. d (ap (λ z. z.bucket) (ok.calls.begun_once _ _ k.begun h.call.begun (sym i)))) f;
      }

  abbrev rested : Server
  rested = (finish b r s).server

  finished_leads : Leads n buckets end_log p rested
  unfolding finish
  finished_leads =
      let l = leads_carried adds.grows (λ x m. m) (λ x m. m) (λ x m. m) (λ x m. m) (λ x m. m) (λ x m. m) h.leads in
      record {
        shape =
            record {
              copies = l.shape.copies;
              votes = l.shape.votes;
              rounds = simp length-set l.shape.rounds;
              calls = simp length-set l.shape.calls;
            };
        stored = l.stored;
        numbered = l.numbered;
        role = l.role;
        won = l.won;
        vote = l.vote;
        positive = l.positive;
        newest = l.newest;
      }

  finished_buckets : (j : ℕ) → Bucket n end_log p rested j
  unfolding finish
  finished_buckets =
      let w = s.volatile in
      let st = s.stored in
      each_place (Bucket n end_log p rested) b
      (λ j d.
      rw (get_or-set_other w.rounds b j none none d, get_or-set_other w.calls b j none none d)
      (bucket_grows adds.grows n p st.number j (copy_at st j) (round_at w j) (call_at w j) (λ y i k. untouched j d y k) (h.elsewhere j d)))
      (rw (get_or-set_same w.rounds b none none (rw h.leads.shape.rounds h.inside), get_or-set_same w.calls b none none (rw h.leads.shape.calls h.inside))
      (λ i. chosen_grows adds.grows (rest i)))

  pub finish_kept : Kept n buckets now taken p log (finish b r s)
  unfolding finish answer_of
  finish_kept =
      record {
        next = end_log;
        adds = adds;
        facts = ended_added ok ending refl h.call.unended _ h.call.begun refl end;
        server = leader_agrees finished_leads finished_buckets;
        sends = λ m i. none_in i;
        begins = refl;
        ends = λ x. rw h.here (λ m. m, λ m. m);
      }
