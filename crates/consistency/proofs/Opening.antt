-- A leader opens a reading round: the log gets the round and the leader's own report, and the server agrees with that.
use mathlib.Core.Path.{◌≡◌, refl, ◌∙◌}
use mathlib.Core.Logic.{◌≢◌}
use mathlib.Core.Bool.{Bool, true, false}
use mathlib.Core.Option.{none, some}
use Prim.Native.Nat.{ℕ, zero, suc, ◌+◌, ◌≤◌, ◌<◌}
use native.Mathlib.Omega.{arith}
use native.Mathlib.Decide.{ℕ_discrete}
use lib.ListN.{length, get_or, set, replicate, length-set, length-replicate}
use lib.Seq.{get_or-set_same, get_or-set_other}
use Rattle.model.specs.Cluster.{Version, copy_at, Purpose, recovery_read, check, silent, acknowledged, Call, round_at, call_at, Server}
use Rattle.model.specs.Replica.{reading, accepting, voting}
use Rattle.model.specs.Leader.{is_own, one_more, new_round, opening, report_to}
use Rattle.history.specs.Members.{◌∈◌}
use Rattle.history.specs.Version.{◌≼◌}
use Rattle.history.proofs.MemberLaws.{first_in, each_cons}
use Rattle.history.proofs.VersionLaws.{le_refl}
use Rattle.consistency.proofs.Log.{Write, Report, Opened, Log}
use Rattle.consistency.proofs.Claims.{Chosen}
use Rattle.consistency.proofs.Invariant.{Unwritten, LogOk, StoredOk, CallOk, RoundOk, Shape}
use Rattle.consistency.proofs.Growth.{won_grows, holds_grows, chosen_grows, one_winner, Adds, adds_trans}
use Rattle.consistency.proofs.Buckets.{Untouched, call_grows, bucket_grows}
use Rattle.consistency.proofs.Acts.{add_report, add_round}
use Rattle.consistency.proofs.Added.{adds_round, adds_report}
use Rattle.consistency.proofs.Extend.{round_added, report_added}
use Rattle.consistency.proofs.Ceasing.{stored_grows}
use Rattle.consistency.proofs.Storing.{heeded_stored, report_stored}
use Rattle.consistency.proofs.Ready.{Leads, Ready, Bucket}

-- one more round made for a call
abbrev pub more : Bool → Call → Call
more own c = record { number = c.number; words = c.words; rounds = c.rounds + 1; sent = elim own [ true ↦ true | false ↦ c.sent ] }

abbrev pub call_more : (own : Bool) {log : Log} {p k : ℕ} {c : Call} → CallOk log p k c → CallOk log p k (more own c)
call_more own h = record { line = h.line; begun = h.begun; unended = h.unended }

silent_all : (n q : ℕ) → get_or (replicate n silent) q silent ≡ silent
silent_all zero q = refl
silent_all (suc n) zero = refl
silent_all (suc n) (suc q) = silent_all n q

-- of the marks of a new round only the sender's own is set
pub only_own : (n p q : ℕ) → get_or (set (replicate n silent) p acknowledged) q silent ≡ acknowledged → q ≡ p
only_own n p q e = go (ℕ_discrete q p)
  where
    go : Dec (q ≡ p) → q ≡ p
    go (yes i) = i
    go (no d) =
        let f : get_or (set (replicate n silent) p acknowledged) q silent ≡ silent = get_or-set_other (replicate n silent) p q acknowledged silent d ∙ silent_all n q in
        let z : ◌≡◌ {A = ℕ} 0 1 = cc in absurd (omega arith)

-- a round has one mark for each server
pub new_marks : (n p b : ℕ) (u : Purpose) (s : Server) → length (new_round n p b u s).marks ≡ n
unfolding new_round
new_marks n p b u s = simp (length-set, length-replicate)

module _ {n buckets now taken p b : ℕ} {log : Log} (ok : LogOk n now taken log) {c : Call} {s : Server} (h : Ready n buckets log p b c s) where
  abbrev e : ℕ
  e = s.stored.number

  abbrev k : ℕ
  k = s.volatile.last_round + 1

  -- the round's entry, and the leader's own report
  abbrev pub entry : Purpose → Version → Opened
  entry u x = record { leader = p; election = e; number = k; bucket = b; purpose = u; at = x; call = c.number; line = now }

  abbrev own : Report
  own = record { server = p; bucket = b; election = e; round = k; at = (copy_at s.stored b).version }

  abbrev pub read_log : Purpose → Version → Log
  read_log u x = add_report own (add_round (entry u x) log)

  -- rounds under the leader's number are the leader's own
  pub above_all : (o : Opened) → o ∈ log.rounds → o.election ≡ e → o.number < k
  above_all o m i =
      let q = one_winner n ok.votes (rw i at (ok.rounds.won o m)) h.leads.won in
      omega (arith, h.leads.numbered o m q i)

  pub read_adds : (u : Purpose) (x : Version) → Adds p log (read_log u x)
  read_adds u x = adds_trans (adds_round log (entry u x)) (adds_report (add_round (entry u x) log) own)

  -- what a checking round looks at
  abbrev pub Looks : Purpose → Version → Type 0
  Looks u x =
      u ≡ check →
      ((w : Write) → w ∈ log.writes → w.bucket ≡ b → w.at.election ≡ x.election → w.at ≼ x)
      × (x.election ≡ e)
      × (w : Write) × (w ∈ log.writes) × (w.bucket ≡ b) × (w.at ≡ x)

  pub read_facts : (u : Purpose) (x : Version) → Looks u x → LogOk n now taken (read_log u x)
  read_facts u x look =
      let first = round_added ok (entry u x) refl h.leads.won above_all look in
      report_added first own (entry u x) first_in refl refl
      (rw h.leads.vote at (h.leads.stored.copies b).1)
      (λ a m i j. rw j at (h.leads.stored.accepts a m i).0)
      (λ v m i. rw h.leads.vote at (h.leads.stored.votes v m i))

  untouched : (u : Purpose) (x : Version) (i : ℕ) → Untouched log (read_log u x) i
  untouched u x i = record { unwritten = λ f. f; unended = λ f. f }

  -- the leader's vote goes to itself
  read_stored : (u : Purpose) (x : Version) → StoredOk (read_log u x) p (voting e p s.stored)
  read_stored u x =
      report_stored p b e k _ (add_round (entry u x) log) (voting e p s.stored)
      (stored_grows (adds_round log (entry u x)).grows (λ y m. m) (λ y m. m) (λ y m. m) (λ y m. m) (heeded_stored h.leads.stored (omega (arith, h.leads.vote)) h.leads.won))
      (omega arith)

  module _ (u : Purpose) (x : Version) where
    abbrev after : Server
    after = opening n p b u reading s

    read_shape : Shape n buckets after
    unfolding opening accepting
    read_shape =
        let sh = h.leads.shape in
        record { copies = sh.copies; votes = sh.votes; rounds = simp length-set sh.rounds; calls = simp length-set sh.calls }

    read_leads : Leads n buckets (read_log u x) p after
    unfolding opening accepting
    read_leads =
        record {
          shape = read_shape;
          stored = read_stored u x;
          numbered = each_cons {P = λ o. o.leader ≡ p → o.election ≡ e → o.number ≤ k} (λ i j. omega arith) (λ o m i j. omega (arith, h.leads.numbered o m i j));
          role = h.leads.role;
          won = won_grows (read_adds u x).grows h.leads.won;
          vote = refl;
          positive = h.leads.positive;
          newest = λ j. record { recovered = (h.leads.newest j).recovered; unrecovered = (h.leads.newest j).unrecovered };
        }

    read_elsewhere : (j : ℕ) → j ≢ b → Bucket n (read_log u x) p after j
    unfolding opening accepting
    read_elsewhere j d =
        let w = s.volatile in
        rw (get_or-set_other w.rounds b j (some (new_round n p b u s)) none d, get_or-set_other w.calls b j (one_more (is_own u) (call_at w b)) none d)
        (bucket_grows (read_adds u x).grows n p e j (copy_at s.stored j) (round_at w j) (call_at w j) (λ y i q. untouched u x y.number) (h.elsewhere j d))

    pub read_ready : is_own u ≡ false → Ready n buckets (read_log u x) p b (more false c) after
    unfolding opening accepting one_more
    read_ready mine =
        record {
          leads = read_leads;
          elsewhere = read_elsewhere;
          inside = h.inside;
          here =
              get_or-set_same s.volatile.calls b (one_more (is_own u) (call_at s.volatile b)) none (rw h.leads.shape.calls h.inside)
              ∙ rw (mine, h.here);
          call = call_more false (call_grows (read_adds u x).grows (untouched u x c.number) h.call);
        }

    pub read_round : round_at after.volatile b ≡ some (new_round n p b u s)
    unfolding opening
    read_round = get_or-set_same s.volatile.rounds b _ none (rw h.leads.shape.rounds h.inside)

  -- a recovery read
  pub recovery_read_ok : ((copy_at s.stored b).version.election ≢ e) → c.sent ≡ false → Unwritten log c.number → (x : Version)
      → RoundOk n (read_log recovery_read x) p e b (copy_at s.stored b) (new_round n p b recovery_read s) (more false c)
  unfolding new_round report_to
  recovery_read_ok old sent unwritten x =
      let g = (read_adds recovery_read x).grows in
      record {
        call = call_more false (call_grows g (untouched recovery_read x c.number) h.call);
        election = refl;
        marks = simp (length-set, length-replicate);
        at = x;
        line = now;
        opened = first_in;
        after = ok.time.begins _ h.call.begun;
        phase = (
          old,
          sent,
          unwritten,
          holds_grows g (h.leads.stored.copies b).0,
          rw h.leads.vote at (h.leads.stored.copies b).1,
          λ q m. let i = only_own n p q m in rw i ((copy_at s.stored b).version, first_in, le_refl _),
        );
      }

  -- a checking round
  pub check_ok : (copy_at s.stored b).version.election ≡ e → c.sent ≡ false → Unwritten log c.number → Chosen n log b (copy_at s.stored b).version
      → RoundOk n (read_log check (copy_at s.stored b).version) p e b (copy_at s.stored b) (new_round n p b check s) (more false c)
  unfolding new_round report_to
  check_ok same sent unwritten chosen =
      let x = (copy_at s.stored b).version in
      let g = (read_adds check x).grows in
      record {
        call = call_more false (call_grows g (untouched check x c.number) h.call);
        election = refl;
        marks = simp (length-set, length-replicate);
        at = x;
        line = now;
        opened = first_in;
        after = ok.time.begins _ h.call.begun;
        phase = (refl, same, sent, unwritten, chosen_grows g chosen, λ q m. let i = only_own n p q m in rw i (x, first_in, tt));
      }
