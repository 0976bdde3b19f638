-- A leader opens a writing round: the log gets the write, the round and the leader's own acceptance, the leader's copy becomes the
-- new version, and the server agrees with that.
use mathlib.Core.Path.{◌≡◌, refl, sym, ◌∙◌, ap, subst}
use mathlib.Core.Logic.{◌≢◌}
use mathlib.Core.List.{List}
use mathlib.Core.Bool.{true}
use mathlib.Core.Option.{Option, none, some}
use Prim.Native.Nat.{ℕ, ◌+◌, ◌≤◌}
use native.Mathlib.Omega.{arith}
use lib.ListN.{set, length-set, length-replicate}
use lib.Seq.{get_or-set_same, get_or-set_other}
use Rattle.entries.specs.Entries.{Entry}
use Rattle.model.specs.Cluster.{Version, above, Copy, copy_of, Stored, fresh_copy, copy_at, Purpose, check, Call, round_at, call_at, Server}
use Rattle.model.specs.Replica.{writing, accepting, storing, voting}
use Rattle.model.specs.Leader.{is_own, one_more, new_round, opening}
use Rattle.history.specs.Members.{◌∈◌}
use Rattle.history.specs.Version.{◌≼◌, ◌≺◌}
use Rattle.history.proofs.MemberLaws.{first_in, each_cons}
use Rattle.history.proofs.VersionLaws.{le_refl, le_of_lt}
use Rattle.consistency.proofs.Log.{Write, Accept, Opened, Log, Grows}
use Rattle.consistency.proofs.Claims.{later}
use Rattle.consistency.proofs.Invariant.{Unwritten, LogOk, Origin, Succeeds, StoredOk, MarksAccepted, PhaseOk, CallOk, CopyNewest, ServerOk}
use Rattle.consistency.proofs.Growth.{won_grows, Adds, adds_trans, TakenAt}
use Rattle.consistency.proofs.Buckets.{Untouched, bucket_grows}
use Rattle.consistency.proofs.Acts.{add_write, add_accept, add_round}
use Rattle.consistency.proofs.Added.{adds_round, adds_write, adds_accept}
use Rattle.consistency.proofs.Extend.{round_added, write_added, accept_added}
use Rattle.consistency.proofs.Ceasing.{stored_grows}
use Rattle.consistency.proofs.Storing.{heeded_stored, accept_stored}
use Rattle.consistency.proofs.Ready.{Leads, Ready, Bucket, each_place, round_agrees}
use Rattle.consistency.proofs.Opening.{more, only_own, entry, above_all}

-- a new write by the leader s of bucket b, for call c or for recovery
pub record NewWrite (n now : ℕ) (log : Log) (b : ℕ) (c : Call) (s : Server) (v u : Version) (t : List Entry) (owner : Option ℕ) : Type 0 where
  pub election : v.election ≡ s.stored.number
  pub counter : 1 ≤ v.counter
  pub above : above v (copy_at s.stored b).version ≡ true
  pub newest : (w : Write) → w ∈ log.writes → w.bucket ≡ b → w.at.election ≡ s.stored.number → w.at ≺ v
  pub origin : Origin log (record { bucket = b; at = v; parent = u; table = t; call = owner; line = now })
  pub succeeds : Succeeds n log (record { bucket = b; at = v; parent = u; table = t; call = owner; line = now })
  pub mine : (i : ℕ) → owner ≡ some i → i ≡ c.number
  pub unwritten : Unwritten log c.number

module _ {n buckets now taken p b : ℕ} {log : Log} (ok : LogOk n now taken log) {c : Call} {s : Server} (h : Ready n buckets log p b c s)
    {v u : Version} {t : List Entry} {owner : Option ℕ} (new : NewWrite n now log b c s v u t owner) (why : Purpose) (other : why ≡ check → ⊥) where
  abbrev e : ℕ
  e = s.stored.number

  abbrev pub wrote : Write
  wrote = record { bucket = b; at = v; parent = u; table = t; call = owner; line = now }

  abbrev own : Accept
  own = record { server = p; bucket = b; at = v }

  abbrev opens : Opened
  opens = entry ok h why v

  abbrev pub write_log : Log
  write_log = add_accept own (add_round opens (add_write wrote log))

  not_below : (w : Write) → w ∈ log.writes → w.bucket ≡ b → w.at ≡ v → ⊥
  not_below w m i j = let l = new.newest w m i (ap (λ y. y.election) j ∙ new.election) in
      omega (arith, l.counters (omega (arith, ap (λ y. y.election) j)), ap (λ y. y.counter) j)

  took : TakenAt log p c.number
  took = (_, h.call.begun, refl, refl)

  pub write_adds : Adds p log write_log
  write_adds =
      adds_trans
      (adds_write log p wrote (rw new.election h.leads.won) (λ i m. rw (new.mine i m) took))
      (adds_trans (adds_round (add_write wrote log) opens) (adds_accept (add_round opens (add_write wrote log)) own))

  pub write_facts : LogOk n now taken write_log
  write_facts =
      let won = h.leads.won in
      let one =
      write_added ok wrote refl (rw new.election h.leads.positive) new.counter not_below new.origin new.succeeds
      won.win won.had (won.election ∙ rw new.election) (λ i m. rw (new.mine i m) (new.unwritten, h.call.unended)) in
      let two =
      round_added one opens refl (record { win = won.win; had = won.had; election = won.election; leader = won.leader })
      (above_all ok h) (λ i. absurd (other i)) in
      accept_added two own wrote first_in refl refl
      (λ r m i. rw (new.election, ← h.leads.vote) (h.leads.stored.reports r m i))

  -- the server afterwards
  abbrev pub copy : Copy
  copy = copy_of v t

  abbrev stored : Stored
  stored = record { number = e; vote = e; leader = p; copies = set s.stored.copies b copy }

  abbrev writer : Server
  writer =
      record {
        stored = stored;
        volatile =
            record {
              role = s.volatile.role;
              votes = s.volatile.votes;
              last_round = s.volatile.last_round + 1;
              rounds = set s.volatile.rounds b (some (new_round n p b why s));
              calls = set s.volatile.calls b (one_more (is_own why) (call_at s.volatile b));
            };
        stopped = s.stopped;
      }

  stored_is : storing b copy (voting e p s.stored) ≡ stored
  unfolding storing
  stored_is = rw (storing, new.above)

  writes_server : opening n p b why (writing copy) s ≡ writer
  unfolding opening accepting storing
  writes_server = rw (storing, new.above)

  copy_here : copy_at stored b ≡ copy
  copy_here = get_or-set_same s.stored.copies b copy fresh_copy (rw h.leads.shape.copies h.inside)

  copy_there : (j : ℕ) → j ≢ b → copy_at stored j ≡ copy_at s.stored j
  copy_there j d = get_or-set_other s.stored.copies b j copy fresh_copy d

  abbrev grows : Grows log write_log
  grows = write_adds.grows

  write_stored : StoredOk write_log p stored
  write_stored =
      let g = (adds_trans (adds_write log p wrote (rw new.election h.leads.won) (λ i m. rw (new.mine i m) took)) (adds_round (add_write wrote log) opens)).grows in
      let before = stored_grows g (λ y m. m) (λ y m. m) (λ y m. m) (λ y m. m) (heeded_stored h.leads.stored (omega (arith, h.leads.vote)) h.leads.won) in
      subst (StoredOk write_log p) stored_is
      (accept_stored p b copy (add_round opens (add_write wrote log)) (voting e p s.stored) before (omega (arith, new.election)) (rw h.leads.shape.copies h.inside) (later wrote first_in refl refl refl))

  write_newest : (j : ℕ) → CopyNewest write_log e j (copy_at stored j)
  write_newest =
      each_place (λ j. CopyNewest write_log e j (copy_at stored j)) b
      (λ j d.
      rw (copy_there j d)
      (record {
        recovered = λ i.
            each_cons {P = λ w. w.bucket ≡ j → w.at.election ≡ e → w.at ≼ (copy_at s.stored j).version}
            (λ q l. absurd (d (sym q))) ((h.leads.newest j).recovered i);
        unrecovered = λ i.
            each_cons {P = λ w. w.bucket ≡ j → w.at.election ≡ e → ⊥}
            (λ q l. d (sym q)) ((h.leads.newest j).unrecovered i);
      }))
      (rw copy_here
      (record {
        recovered = λ i.
            each_cons {P = λ w. w.bucket ≡ b → w.at.election ≡ e → w.at ≼ v}
            (λ q l. le_refl v) (λ w m q l. le_of_lt (new.newest w m q l));
        unrecovered = λ i w m q l. i new.election;
      }))

  write_leads : Leads n buckets write_log p writer
  write_leads =
      let sh = h.leads.shape in
      record {
        shape =
            record {
              copies = simp length-set sh.copies;
              votes = sh.votes;
              rounds = simp length-set sh.rounds;
              calls = simp length-set sh.calls;
            };
        stored = write_stored;
        numbered =
            each_cons {P = λ o. o.leader ≡ p → o.election ≡ e → o.number ≤ s.volatile.last_round + 1}
            (λ i j. omega arith) (λ o m i j. omega (arith, h.leads.numbered o m i j));
        role = h.leads.role;
        won = won_grows grows h.leads.won;
        vote = refl;
        positive = h.leads.positive;
        newest = write_newest;
      }

  -- a call on another bucket is another call
  untouched : (j : ℕ) → j ≢ b → (y : Call) → CallOk log p j y → Untouched log write_log y.number
  untouched j d y k =
      record {
        unwritten = λ f.
            each_cons {P = λ w. w.call ≡ some y.number → ⊥}
            (λ i. d (ap (λ z. z.bucket) (ok.calls.begun_once _ _ k.begun h.call.begun (new.mine _ i)))) f;
        unended = λ f. f;
      }

  write_elsewhere : (j : ℕ) → j ≢ b → Bucket n write_log p writer j
  write_elsewhere j d =
      let w = s.volatile in
      rw (copy_there j d, get_or-set_other w.rounds b j (some (new_round n p b why s)) none d, get_or-set_other w.calls b j (one_more (is_own why) (call_at w b)) none d)
      (bucket_grows grows n p e j (copy_at s.stored j) (round_at w j) (call_at w j) (λ y i k. untouched j d y k) (h.elsewhere j d))

  abbrev write_call : CallOk write_log p b (more (is_own why) c)
  write_call = record { line = h.call.line; begun = h.call.begun; unended = h.call.unended }

  writer_ready : Ready n buckets write_log p b (more (is_own why) c) writer
  unfolding one_more
  writer_ready =
      record {
        leads = write_leads;
        elsewhere = write_elsewhere;
        inside = h.inside;
        here =
            get_or-set_same s.volatile.calls b (one_more (is_own why) (call_at s.volatile b)) none (rw h.leads.shape.calls h.inside)
            ∙ rw h.here;
        call = write_call;
      }

  pub write_ready : Ready n buckets write_log p b (more (is_own why) c) (opening n p b why (writing copy) s)
  write_ready = rw writes_server writer_ready

  pub write_marks : MarksAccepted write_log b v (new_round n p b why s).marks
  unfolding new_round
  write_marks q m = let i = only_own n p q m in rw i first_in

  -- the open round completes the server, once its phase is known
  pub write_rests : PhaseOk n write_log e b v copy (new_round n p b why s) (more (is_own why) c) why → ServerOk n buckets write_log p (opening n p b why (writing copy) s)
  unfolding new_round
  write_rests phase =
      rw writes_server
      (round_agrees writer_ready (new_round n p b why s)
      (get_or-set_same s.volatile.rounds b (some (new_round n p b why s)) none (rw h.leads.shape.rounds h.inside))
      (rw copy_here
      (record {
        call = write_call;
        election = refl;
        marks = simp (length-set, length-replicate);
        at = v;
        line = now;
        opened = first_in;
        after = ok.time.begins _ h.call.begun;
        phase = phase;
      })))

  -- what the server stores at bucket b afterwards
  pub write_copy : copy_at (opening n p b why (writing copy) s).stored b ≡ copy
  write_copy = rw writes_server copy_here

  pub write_number : (opening n p b why (writing copy) s).stored.number ≡ e
  write_number = rw writes_server
