-- A leader takes a call.
use mathlib.Core.Path.{◌≡◌, refl, sym, ◌∙◌, subst}
use mathlib.Core.List.{List}
use mathlib.Core.Bool.{false}
use mathlib.Core.Option.{Option, none, some}
use Prim.Native.Nat.{ℕ, suc, ◌<◌}
use native.Mathlib.Omega.{arith}
use lib.ListN.{set, length-set}
use lib.Seq.{get_or-set_same, get_or-set_other}
use Rattle.entries.specs.Entries.{Entry}
use Rattle.model.specs.Calls.{Words}
use Rattle.model.specs.Cluster.{copy_at, Copy, leading, Round, Call, round_at, call_at, Server}
use Rattle.model.specs.Leader.{begin_call}
use Rattle.history.specs.Members.{◌∈◌}
use Rattle.history.proofs.MemberLaws.{first_in}
use Rattle.consistency.proofs.Log.{Write, Begun, Log}
use Rattle.consistency.proofs.Claims.{Chosen}
use Rattle.consistency.proofs.Invariant.{Unwritten, Unended, Makes, kept, changed, LogOk, BucketOk, ServerOk}
use Rattle.consistency.proofs.Growth.{chosen_grows}
use Rattle.consistency.proofs.Buckets.{bucket_grows}
use Rattle.consistency.proofs.Acts.{add_begun, Kept}
use Rattle.consistency.proofs.Added.{adds_begun}
use Rattle.consistency.proofs.Extend.{begun_added}
use Rattle.consistency.proofs.Ready.{Leads, leads_carried, Ready, leader_of}
use Rattle.consistency.proofs.Chain.{start_kept}

-- where no call is open no round is, and what is written under the leader's number is chosen
rest_of : (n : ℕ) (log : Log) (p e b : ℕ) (copy : Copy) (r : Option Round) (c : Option Call) → c ≡ none → BucketOk n log p e b copy r c → copy.version.election ≡ e → Chosen n log b copy.version
rest_of n log p e b copy none none i h = h
rest_of n log p e b copy none (some c) i h = absurd h
rest_of n log p e b copy (some r) none i h = absurd h
rest_of n log p e b copy (some r) (some c) i h = let z : ◌≡◌ {A = ℕ} 0 1 = cc in absurd (omega arith)

module _ (n buckets now taken p b : ℕ) {log : Log} (ok : LogOk n now taken log) {s : Server} (agrees : ServerOk n buckets log p s)
    (leads : s.volatile.role ≡ leading) (inside : b < buckets) (free : call_at s.volatile b ≡ none) (i : ℕ) (next : i ≡ suc taken) (words : Words) where
  abbrev pub taking : Begun
  taking = record { number = i; server = p; bucket = b; words = words; line = now }

  abbrev pub taken_log : Log
  taken_log = add_begun taking log

  abbrev fresh : Call
  fresh = record { number = i; words = words; rounds = 0; sent = false }

  -- no call was taken under its number
  new_number : (y : Begun) → y ∈ log.begins → y.number ≡ i → ⊥
  new_number y m e = omega (arith, ok.time.numbers y m)

  writes_of : {w : Write} {t : List Entry} {o : Option ℕ} → Makes log w t o → o ≡ some i → ⊥
  writes_of (kept e) q = let z : ◌≡◌ {A = ℕ} 0 1 = cc in omega arith
  writes_of (changed x m e l f) q = new_number x m (cc)

  fresh_unwritten : Unwritten log i
  fresh_unwritten w m e = writes_of (ok.writes.origin w m).makes e

  fresh_unended : Unended log i
  fresh_unended x m e = let y = ok.calls.ended_begun x m in new_number y.0 y.1 (y.2 ∙ e)

  abbrev server : Server
  server =
      record {
        stored = s.stored;
        volatile =
            record {
              role = s.volatile.role;
              votes = s.volatile.votes;
              last_round = s.volatile.last_round;
              rounds = s.volatile.rounds;
              calls = set s.volatile.calls b (some fresh);
            };
        stopped = s.stopped;
      }

  taken_leads : Leads n buckets taken_log p server
  taken_leads =
      let l = leads_carried (adds_begun log p taking).grows (λ x m. m) (λ x m. m) (λ x m. m) (λ x m. m) (λ x m. m) (λ x m. m) (leader_of agrees leads).0 in
      record {
        shape = record { copies = l.shape.copies; votes = l.shape.votes; rounds = l.shape.rounds; calls = simp length-set l.shape.calls };
        stored = l.stored;
        numbered = l.numbered;
        role = l.role;
        won = l.won;
        vote = l.vote;
        positive = l.positive;
        newest = l.newest;
      }

  taken_ready : Ready n buckets taken_log p b fresh server
  taken_ready =
      let w = s.volatile in
      let g = (adds_begun log p taking).grows in
      record {
        leads = taken_leads;
        elsewhere = λ j d.
            rw (get_or-set_other w.calls b j (some fresh) none d)
            (bucket_grows g n p s.stored.number j (copy_at s.stored j) (round_at w j) (call_at w j)
            (λ y e c. record { unwritten = λ f. f; unended = λ f. f }) ((leader_of agrees leads).1 j));
        inside = inside;
        here = get_or-set_same w.calls b (some fresh) none (rw agrees.shape.calls inside);
        call = record { line = now; begun = first_in; unended = fresh_unended };
      }

  pub begin_kept : Kept n buckets now i p taken_log (begin_call n p b i words s)
  unfolding begin_call
  begin_kept =
      let w = s.volatile in
      start_kept n buckets now i p b (subst (λ k. LogOk n now k taken_log) (sym next) (begun_added ok taking next refl)) taken_ready
      (λ e. chosen_grows (adds_begun log p taking).grows
      (rest_of n log p s.stored.number b (copy_at s.stored b) (round_at w b) (call_at w b) free ((leader_of agrees leads).1 b) e))
      refl fresh_unwritten
