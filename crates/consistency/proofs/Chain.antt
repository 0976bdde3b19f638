-- The steps of a call at a leader keep the invariant: the call's own write, the checking round, recovery, READ, and what follows a
-- round that closes.
use mathlib.Core.Path.{◌≡◌, refl, sym, ◌∙◌, ap, subst}
use mathlib.Core.Logic.{◌≢◌}
use mathlib.Core.List.{List, []}
use mathlib.Core.Bool.{Bool, true, false}
use mathlib.Core.Option.{Option, none, some}
use Prim.Native.Nat.{ℕ, ◌+◌, ◌≤◌, ◌<◌}
use native.Mathlib.Omega.{arith}
use native.Mathlib.Numerals.{add-one}
use native.Mathlib.Decide.{ℕ_discrete}
use borrow.Author.Tests.{eqb-true, eqb-false}
use Rattle.entries.specs.Entries.{Entry}
use Rattle.model.specs.Calls.{Result, done, Effect, answers, writes, effect}
use Rattle.model.specs.Cluster.{Version, version, Copy, copy_of, copy_at, Purpose, recovery_read, recovery_write, check, own_write, Round, Call, round_at, call_at, Server}
use Rattle.model.specs.Replica.{reading, writing, request_body, accepting}
use Rattle.model.specs.Leader.{Reaction, is_own, report_to, new_round, closes, opening, open_round, broadcast, finish, next_version, applying, after_read, checking, recovering, recovered, start_read, start_call, closed}
use Rattle.model.proofs.FirstRound.{first_round}
use Rattle.history.specs.Members.{◌∈◌}
use Rattle.history.specs.Version.{◌≼◌, ◌≺◌}
use Rattle.history.proofs.MemberLaws.{first_in, none_in, each_cons}
use Rattle.history.proofs.VersionLaws.{lt_of_le_lt}
use Rattle.consistency.proofs.Majorities.{MajorityOf}
use Rattle.consistency.proofs.Log.{Write, Opened, Check, Log}
use Rattle.consistency.proofs.Claims.{Holds, first, later, Chosen, Reported, MessageOk}
use Rattle.consistency.proofs.Claims
use Rattle.consistency.proofs.Invariant.{Unwritten, LogOk, kept, changed, recovers, follows, by_write, by_check, RoundOk, PhaseOk, MarksAccepted}
use Rattle.consistency.proofs.OneTable.{one_table}
use Rattle.consistency.proofs.Growth.{chosen_grows, holds_grows, won_grows}
use Rattle.consistency.proofs.Acts.{Kept, add_check}
use Rattle.consistency.proofs.Buckets.{bucket_grows}
use Rattle.consistency.proofs.Added.{adds_check}
use Rattle.consistency.proofs.Extend.{check_added}
use Rattle.consistency.proofs.Above.{lt_above}
use Rattle.consistency.proofs.Broadcast.{each_of_broadcast}
use Rattle.consistency.proofs.Marks.{acknowledgers, closed_majority, closed_marked, closed_chosen}
use Rattle.consistency.proofs.Ready.{leads_carried, Ready, round_agrees}
use Rattle.consistency.proofs.Chaining.{Sent, kept_after}
use Rattle.consistency.proofs.Going.{open_kept}
use Rattle.consistency.proofs.Opening.{more, new_marks, read_log, read_adds, Looks, read_facts, read_ready, read_round, recovery_read_ok, check_ok}
use Rattle.consistency.proofs.Writing.{NewWrite, wrote, write_log, write_adds, write_facts, write_ready, write_marks, write_rests, write_copy, write_number}
use Rattle.consistency.proofs.Finish.{finish_kept}

-- what an open round says, once what it is made for is known
abbrev phase_at : (n : ℕ) (log : Log) (e b : ℕ) (x : Version) (copy : Copy) (r : Round) (c : Call) {u : Purpose} → r.purpose ≡ u → PhaseOk n log e b x copy r c r.purpose → PhaseOk n log e b x copy r c u
phase_at n log e b x copy r c i h = subst (PhaseOk n log e b x copy r c) i h

module _ (n buckets now taken p b : ℕ) where
  -- ---- the messages of a round

  read_sent : {log : Log} (ok : LogOk n now taken log) {c : Call} {s : Server} (h : Ready n buckets log p b c s) (u : Purpose) (x : Version)
      → Claims.writing u ≡ false
      → Sent buckets p log (read_log ok h u x) (broadcast n p b s.stored.number (s.volatile.last_round + 1) (request_body reading))
  unfolding request_body
  read_sent ok {c} {s} h u x kind =
      let a = read_adds ok h u x in
      record {
        adds = a;
        begins = refl;
        ends = refl;
        sends =
            each_of_broadcast (MessageOk buckets (read_log ok h u x)) n p b s.stored.number (s.volatile.last_round + 1) _ (λ q d.
            record {
              apart = λ i. d (sym i);
              positive = h.leads.positive;
              claim = (
                won_grows a.grows h.leads.won,
                x,
                record { opened = _; had = first_in; leader = refl; election = refl; number = refl; bucket = refl; kind = kind; at = refl },
              );
            });
      }

  write_sent : {log : Log} (ok : LogOk n now taken log) {c : Call} {s : Server} (h : Ready n buckets log p b c s)
      {v u : Version} {t : List Entry} {owner : Option ℕ} (new : NewWrite n now log b c s v u t owner) (why : Purpose) (other : why ≡ check → ⊥)
      → Claims.writing why ≡ true
      → Sent buckets p log (write_log ok h new why other)
      (broadcast n p b s.stored.number (s.volatile.last_round + 1) (request_body (writing (copy_of v t))))
  unfolding request_body
  write_sent ok {c} {s} h {v} {u} {t} {owner} new why other kind =
      let a = write_adds ok h new why other in
      record {
        adds = a;
        begins = refl;
        ends = refl;
        sends =
            each_of_broadcast (MessageOk buckets (write_log ok h new why other)) n p b s.stored.number (s.volatile.last_round + 1) _ (λ q d.
            record {
              apart = λ i. d (sym i);
              positive = h.leads.positive;
              claim = (
                won_grows a.grows h.leads.won,
                new.election,
                wrote ok h new why other,
                first_in,
                refl,
                refl,
                refl,
                record { opened = _; had = first_in; leader = refl; election = refl; number = refl; bucket = refl; kind = kind; at = refl },
                h.inside,
              );
            });
      }

  -- ---- the call's own write

  -- a call that has not written yet, on a recovered bucket whose newest write is chosen
  pub record Settled (log : Log) (c : Call) (s : Server) : Type 0 where
    pub ready : Ready n buckets log p b c s
    pub recovered : (copy_at s.stored b).version.election ≡ s.stored.number
    pub chosen : Chosen n log b (copy_at s.stored b).version
    pub unsent : c.sent ≡ false
    pub unwritten : Unwritten log c.number

  -- a version that holds a table and has a number above 0 was written, so its counter is at least 1
  counted : {log : Log} → LogOk n now taken log → {x : Version} {t : List Entry} → Holds log b x t → 1 ≤ x.election → 1 ≤ x.counter
  counted ok (Claims.Holds.first e f) l = absurd (omega (arith, ap (λ v. v.election) e))
  counted ok (later w m e f g) l = rw f at (ok.writes.positive w m).1

  own_write_new : {log : Log} → LogOk n now taken log → {c : Call} {s : Server} (h : Settled log c s) (t : List Entry)
      → effect c.words (copy_at s.stored b).table ≡ writes t
      → NewWrite n now log b c s (next_version b s) (copy_at s.stored b).version t (some c.number)
  unfolding next_version
  own_write_new ok {c} {s} h t made =
      let x = (copy_at s.stored b).version in
      let l = h.ready.leads in
      let up : x ≺ version s.stored.number (x.counter + 1) = omega (arith, h.recovered) in
      record {
        election = refl;
        counter = omega arith;
        above = lt_above _ _ up;
        newest = λ w m i j. lt_of_le_lt ((l.newest b).recovered h.recovered w m i j) up;
        origin =
            record {
              table = (copy_at s.stored b).table;
              holds = (l.stored.copies b).0;
              makes = changed _ h.ready.call.begun refl (ok.time.begins _ h.ready.call.begun) made;
              older = λ w m i j. ok.time.writes w m;
            };
        succeeds = follows h.recovered (add-one _) (counted ok (l.stored.copies b).0 (rw h.recovered l.positive));
        mine = λ i e. cc;
        unwritten = h.unwritten;
      }

  own_not_check : own_write ≡ check → ⊥
  own_not_check e = let z : ◌≡◌ {A = ℕ} 0 1 = cc in omega arith

  module _ {log : Log} (ok : LogOk n now taken log) {c : Call} {s : Server} (h : Settled log c s) (t : List Entry)
      (made : effect c.words (copy_at s.stored b).table ≡ writes t) where
    abbrev new : NewWrite n now log b c s (next_version b s) (copy_at s.stored b).version t (some c.number)
    new = own_write_new ok h t made

    abbrev own_log : Log
    own_log = write_log ok h.ready new own_write own_not_check

    own_marks : MarksAccepted own_log b (next_version b s) (new_round n p b own_write s).marks
    own_marks = write_marks ok h.ready new own_write own_not_check

    own_done : closes n (new_round n p b own_write s) ≡ true → Kept n buckets now taken p own_log (finish b done (opening n p b own_write (writing (copy_of (next_version b s) t)) s))
    unfolding is_own
    own_done shut =
        let chosen : Chosen n own_log b (next_version b s) = closed_chosen n (new_round n p b own_write s) (new_marks n p b own_write s) shut b _ own_marks in
        finish_kept (write_facts ok h.ready new own_write own_not_check)
        (write_ready ok h.ready new own_write own_not_check) done
        (λ e. rw (write_copy ok h.ready new own_write own_not_check) chosen)
        (by_write refl _ first_in refl chosen)

    pub own_write_kept : Kept n buckets now taken p log (open_round n p b own_write (writing (copy_of (next_version b s) t)) (finish b done) s)
    unfolding is_own
    own_write_kept =
        open_kept b s own_write (writing (copy_of (next_version b s) t)) (finish b done)
        (write_sent ok h.ready new own_write own_not_check refl)
        (write_facts ok h.ready new own_write own_not_check)
        (write_rests ok h.ready new own_write own_not_check
        (refl, new.election, refl, _, first_in, refl, refl, refl, own_marks))
        own_done

  -- ---- what follows READ

  -- a checking round for call c at version x that a majority confirmed, opened no earlier than the call began
  pub record Checked (log : Log) (c : Call) (x : Version) : Type 0 where
    pub line : ℕ
    pub begun : record { number = c.number; server = p; bucket = b; words = c.words; line = line } ∈ log.begins
    pub opened : Opened
    pub had : opened ∈ log.rounds
    pub purpose : opened.purpose ≡ check
    pub bucket : opened.bucket ≡ b
    pub at : opened.at ≡ x
    pub after : line ≤ opened.line
    pub members : List ℕ
    pub most : MajorityOf n members
    pub confirmed : (q : ℕ) → q ∈ members → (r : Version) × Reported log q b opened.election opened.number r

  module _ {log : Log} (ok : LogOk n now taken log) {c : Call} {s : Server} (h : Settled log c s) (k : Checked log c (copy_at s.stored b).version) where
    abbrev check_of : Check
    check_of = record { bucket = b; at = (copy_at s.stored b).version; call = c.number; line = k.opened.line; members = k.members }

    abbrev check_log : Log
    check_log = add_check check_of log

    checked_ready : Ready n buckets check_log p b c s
    checked_ready =
        let r = h.ready in
        let g = (adds_check log p check_of).grows in
        let w = s.volatile in
        record {
          leads = leads_carried g (λ x m. m) (λ x m. m) (λ x m. m) (λ x m. m) (λ x m. m) (λ x m. m) r.leads;
          elsewhere = λ j d.
              bucket_grows g n p s.stored.number j (copy_at s.stored j) (round_at w j) (call_at w j)
              (λ y i o. record { unwritten = λ f. f; unended = λ f. f }) (r.elsewhere j d);
          inside = r.inside;
          here = r.here;
          call = record { line = r.call.line; begun = r.call.begun; unended = r.call.unended };
        }

    checked_facts : LogOk n now taken check_log
    checked_facts = check_added ok check_of k.most k.opened k.had k.purpose k.bucket k.at refl k.confirmed

    -- the call is answered from the leader's copy
    answered_kept : (r : Result) → effect c.words (copy_at s.stored b).table ≡ answers r → Kept n buckets now taken p log (finish b r s)
    answered_kept r made =
        let g = (adds_check log p check_of).grows in
        let chosen = chosen_grows g h.chosen in
        let sent : Sent buckets p log check_log [] = record { adds = adds_check log p check_of; begins = refl; ends = refl; sends = λ m i. none_in i } in
        kept_after sent
        (finish_kept checked_facts checked_ready r (λ e. chosen)
        (by_check check_of first_in refl (ok.time.rounds _ k.had) chosen _ k.begun refl refl k.after
        (λ t held. ap (effect c.words) (one_table checked_facts held (holds_grows g (h.ready.leads.stored.copies b).0)) ∙ made)
        h.unwritten))

    applying_kept : (f : Effect) → effect c.words (copy_at s.stored b).table ≡ f → Kept n buckets now taken p log (applying n p b f s)
    unfolding applying
    applying_kept (answers r) made = answered_kept r made
    applying_kept (writes t) made = own_write_kept ok h t made

    pub after_read_kept : Kept n buckets now taken p log (after_read n p b s)
    unfolding after_read
    after_read_kept = rw (after_read, h.ready.here) (applying_kept (effect c.words (copy_at s.stored b).table) refl)

  -- ---- the checking round

  -- a version under a number above 0 that holds a table was written
  held_write : {log : Log} {x : Version} {t : List Entry} → Holds log b x t → 1 ≤ x.election → (w : Write) × (w ∈ log.writes) × (w.bucket ≡ b) × (w.at ≡ x)
  held_write (Claims.Holds.first e f) l = absurd (omega (arith, ap (λ v. v.election) e))
  held_write (later w m e f g) l = (w, m, e, f)

  confirmed_by : {log : Log} {e : ℕ} {copy : Copy} {r : Round} {c : Call} (ro : RoundOk n log p e b copy r c) → (r.purpose ≡ check) → closes n r ≡ true
      → Checked log c copy.version
  confirmed_by {log} {e} {copy} {r} {c} ro u shut =
      let phase = phase_at n log e b ro.at copy r c u ro.phase in
      record {
        line = ro.call.line;
        begun = ro.call.begun;
        opened = _;
        had = ro.opened;
        purpose = u;
        bucket = refl;
        at = sym phase.0;
        after = ro.after;
        members = acknowledgers r;
        most = closed_majority n r ro.marks shut;
        confirmed = λ q m. let y = phase.5 q (closed_marked n r ro.marks shut q m) in (y.0, y.1);
      }

  module _ {log : Log} (ok : LogOk n now taken log) {c : Call} {s : Server} (h : Settled log c s) where
    abbrev seen : Version
    seen = (copy_at s.stored b).version

    looks : Looks ok h.ready check seen
    looks i =
        let l = h.ready.leads in
        let y = held_write (l.stored.copies b).0 (rw h.recovered l.positive) in
        (λ w m j o. (l.newest b).recovered h.recovered w m j (o ∙ h.recovered), h.recovered, y.0, y.1, y.2, y.3)

    abbrev seen_log : Log
    seen_log = read_log ok h.ready check seen

    check_rests : RoundOk n seen_log p s.stored.number b (copy_at s.stored b) (new_round n p b check s) (more false c)
    check_rests = check_ok ok h.ready h.recovered h.unsent h.unwritten h.chosen

    check_settled : Settled seen_log (more false c) (opening n p b check reading s)
    unfolding opening accepting is_own
    check_settled =
        record {
          ready = read_ready ok h.ready check seen refl;
          recovered = h.recovered;
          chosen = chosen_grows (read_adds ok h.ready check seen).grows h.chosen;
          unsent = h.unsent;
          unwritten = h.unwritten;
        }

    check_answers : closes n (new_round n p b check s) ≡ true → Kept n buckets now taken p seen_log (after_read n p b (opening n p b check reading s))
    unfolding opening accepting new_round
    check_answers shut =
        after_read_kept (read_facts ok h.ready check seen looks) check_settled
        (confirmed_by check_rests refl shut)

    pub checking_kept : Kept n buckets now taken p log (checking n p b s)
    unfolding checking opening accepting is_own
    checking_kept =
        open_kept b s check reading (after_read n p b)
        (read_sent ok h.ready check seen refl)
        (read_facts ok h.ready check seen looks)
        (round_agrees (read_ready ok h.ready check seen refl) (new_round n p b check s)
        (read_round ok h.ready check seen) check_rests)
        check_answers

  -- ---- recovery

  recovery_not_check : recovery_write ≡ check → ⊥
  recovery_not_check e = let z : ◌≡◌ {A = ℕ} 0 1 = cc in omega arith

  -- a majority reported versions of bucket b, under the leader's number, none above the version u, which holds t
  pub record Gathered (log : Log) (s : Server) (u : Version) (t : List Entry) : Type 0 where
    pub holds : Holds log b u t
    pub below : u.election ≤ s.stored.number
    pub round : ℕ
    pub members : List ℕ
    pub most : MajorityOf n members
    pub reported : (q : ℕ) → q ∈ members → (r : Version) × Reported log q b s.stored.number round r × (r ≼ u)

  -- a call on a bucket that is not recovered
  pub record Unsettled (log : Log) (c : Call) (s : Server) : Type 0 where
    pub ready : Ready n buckets log p b c s
    pub old : (copy_at s.stored b).version.election ≢ s.stored.number
    pub unsent : c.sent ≡ false
    pub unwritten : Unwritten log c.number

  module _ {log : Log} (ok : LogOk n now taken log) {c : Call} {s : Server} (h : Unsettled log c s) (u : Version) (t : List Entry) (x : Gathered log s u t) where
    -- nothing was written under the leader's number, so what was reported is older
    older : u.election < s.stored.number
    older =
        let no_write = (h.ready.leads.newest b).unrecovered h.old in
        let go : (d : Dec (u.election ≡ s.stored.number)) → u.election < s.stored.number = λ d. elim d [
          | yes e ↦ let w = held_write x.holds (rw e h.ready.leads.positive) in absurd (no_write w.0 w.1 w.2 (ap (λ v. v.election) w.3 ∙ e))
          | no d ↦ omega (arith, x.below)
        ] in
        go (ℕ_discrete u.election s.stored.number)

    recovery_new : NewWrite n now log b c s (version s.stored.number 1) u t none
    recovery_new =
        let l = h.ready.leads in
        let low : (copy_at s.stored b).version.election ≤ s.stored.number = rw l.vote at (l.stored.copies b).1 in
        record {
          election = refl;
          counter = omega arith;
          above = lt_above _ _ (record { elections = low; counters = λ (k : s.stored.number ≤ (copy_at s.stored b).version.election). absurd (h.old (omega arith)) });
          newest = λ w m i j. absurd ((l.newest b).unrecovered h.old w m i j);
          origin = record { table = t; holds = x.holds; makes = kept refl; older = λ w m i j. ok.time.writes w m };
          succeeds = recovers refl older x.members x.most x.round x.reported;
          mine = λ i e. cc;
          unwritten = h.unwritten;
        }

    abbrev recovery_log : Log
    recovery_log = write_log ok h.ready recovery_new recovery_write recovery_not_check

    recovery_marks : MarksAccepted recovery_log b (version s.stored.number 1) (new_round n p b recovery_write s).marks
    recovery_marks = write_marks ok h.ready recovery_new recovery_write recovery_not_check

    recovery_unwritten : Unwritten recovery_log c.number
    recovery_unwritten = each_cons {P = λ w. w.call ≡ some c.number → ⊥} (λ e. let z : ◌≡◌ {A = ℕ} 0 1 = cc in omega arith) h.unwritten

    recovery_checks : closes n (new_round n p b recovery_write s) ≡ true → Kept n buckets now taken p recovery_log (checking n p b (opening n p b recovery_write (writing (copy_of (version s.stored.number 1) t)) s))
    unfolding is_own
    recovery_checks shut =
        let copy = write_copy ok h.ready recovery_new recovery_write recovery_not_check in
        let number = write_number ok h.ready recovery_new recovery_write recovery_not_check in
        checking_kept (write_facts ok h.ready recovery_new recovery_write recovery_not_check)
        (record {
          ready = write_ready ok h.ready recovery_new recovery_write recovery_not_check;
          recovered = rw (copy, number);
          chosen = rw copy (closed_chosen n (new_round n p b recovery_write s) (new_marks n p b recovery_write s) shut b _ recovery_marks);
          unsent = h.unsent;
          unwritten = recovery_unwritten;
        })

    pub recovering_kept : Kept n buckets now taken p log (recovering n p b t s)
    unfolding recovering is_own
    recovering_kept =
        open_kept b s recovery_write (writing (copy_of (version s.stored.number 1) t)) (checking n p b)
        (write_sent ok h.ready recovery_new recovery_write recovery_not_check refl)
        (write_facts ok h.ready recovery_new recovery_write recovery_not_check)
        (write_rests ok h.ready recovery_new recovery_write recovery_not_check
        (refl, refl, h.unsent, recovery_unwritten, recovery_marks))
        recovery_checks

  -- a recovery read that closes has gathered a majority's reports
  gathered_by : {log : Log} {s : Server} {copy : Copy} {r : Round} {c : Call} (ro : RoundOk n log p s.stored.number b copy r c) → r.purpose ≡ recovery_read → closes n r ≡ true
      → Gathered log s r.best.version r.best.table
  gathered_by {log} {s} {copy} {r} {c} ro i shut =
      let phase = phase_at n log s.stored.number b ro.at copy r c i ro.phase in
      record {
        holds = phase.3;
        below = phase.4;
        round = r.number;
        members = acknowledgers r;
        most = closed_majority n r ro.marks shut;
        reported = λ q m. phase.5 q (closed_marked n r ro.marks shut q m);
      }

  -- ---- READ

  reading_not_check : recovery_read ≡ check → ⊥
  reading_not_check e = let z : ◌≡◌ {A = ℕ} 0 1 = cc in omega arith

  module _ {log : Log} (ok : LogOk n now taken log) {c : Call} {s : Server} (h : Unsettled log c s) where
    abbrev gather_log : Log
    gather_log = read_log ok h.ready recovery_read (version 0 0)

    recovery_read_rests : RoundOk n gather_log p s.stored.number b (copy_at s.stored b) (new_round n p b recovery_read s) (more false c)
    recovery_read_rests = recovery_read_ok ok h.ready h.old h.unsent h.unwritten (version 0 0)

    recovery_read_recovers : closes n (new_round n p b recovery_read s) ≡ true
        → Kept n buckets now taken p gather_log (recovering n p b (copy_at s.stored b).table (opening n p b recovery_read reading s))
    unfolding opening accepting new_round report_to is_own
    recovery_read_recovers shut =
        recovering_kept (read_facts ok h.ready recovery_read (version 0 0) (λ i. absurd (reading_not_check i)))
        (record {
          ready = read_ready ok h.ready recovery_read (version 0 0) refl;
          old = h.old;
          unsent = h.unsent;
          unwritten = h.unwritten;
        })
        _ _ (gathered_by recovery_read_rests refl shut)

    recovery_read_kept : Kept n buckets now taken p log (open_round n p b recovery_read reading (recovering n p b (copy_at s.stored b).table) s)
    unfolding opening accepting is_own
    recovery_read_kept =
        open_kept b s recovery_read reading (recovering n p b (copy_at s.stored b).table)
        (read_sent ok h.ready recovery_read (version 0 0) refl)
        (read_facts ok h.ready recovery_read (version 0 0) (λ i. absurd (reading_not_check i)))
        (round_agrees (read_ready ok h.ready recovery_read (version 0 0) refl) (new_round n p b recovery_read s)
        (read_round ok h.ready recovery_read (version 0 0)) recovery_read_rests)
        recovery_read_recovers

  read_kept : {log : Log} → LogOk n now taken log → {c : Call} {s : Server} → Ready n buckets log p b c s
      → ((copy_at s.stored b).version.election ≡ s.stored.number → Chosen n log b (copy_at s.stored b).version)
      → c.sent ≡ false → Unwritten log c.number
      → Kept n buckets now taken p log (start_read n p b s)
  unfolding start_read
  read_kept {log} ok {c} {s} h rest unsent unwritten = go (recovered s.stored.number (copy_at s.stored b)) refl
    where
      go : (t : Bool) → recovered s.stored.number (copy_at s.stored b) ≡ t
          → Kept n buckets now taken p log
          (elim t as (λ _. Reaction) [
            | true ↦ checking n p b s
            | false ↦ open_round n p b recovery_read reading (recovering n p b (copy_at s.stored b).table) s
          ])
      go true e =
          let i = eqb-true _ _ e in
          checking_kept ok (record { ready = h; recovered = i; chosen = rest i; unsent = unsent; unwritten = unwritten })
      go false e = recovery_read_kept ok (record { ready = h; old = eqb-false _ _ e; unsent = unsent; unwritten = unwritten })

  -- a call's own write on a recovered bucket goes out at once; every other call reads first
  pub start_kept : {log : Log} → LogOk n now taken log → {c : Call} {s : Server} → Ready n buckets log p b c s
      → ((copy_at s.stored b).version.election ≡ s.stored.number → Chosen n log b (copy_at s.stored b).version)
      → c.sent ≡ false → Unwritten log c.number
      → Kept n buckets now taken p log (start_call n p b c.words s)
  unfolding applying
  start_kept {log} ok {c} {s} h rest unsent unwritten =
      first_round n p b c.words s (Kept n buckets now taken p log)
      (λ t e made.
      let i = eqb-true _ _ e in
      own_write_kept ok (record { ready = h; recovered = i; chosen = rest i; unsent = unsent; unwritten = unwritten }) t made)
      (read_kept ok h rest unsent unwritten)

  -- ---- a round that closes

  -- the call goes on, or ends, from a round that closed
  module _ {log : Log} (ok : LogOk n now taken log) {c : Call} {s : Server} (h : Ready n buckets log p b c s) (r : Round)
      (ro : RoundOk n log p s.stored.number b (copy_at s.stored b) r c) (shut : closes n r ≡ true) where
    phase : {u : Purpose} → r.purpose ≡ u → PhaseOk n log s.stored.number b ro.at (copy_at s.stored b) r c u
    phase i = phase_at n log s.stored.number b ro.at (copy_at s.stored b) r c i ro.phase

    recovery_read_closed : r.purpose ≡ recovery_read → Kept n buckets now taken p log (recovering n p b r.best.table s)
    recovery_read_closed i =
        let f = phase i in
        recovering_kept ok (record { ready = h; old = f.0; unsent = f.1; unwritten = f.2 }) r.best.version r.best.table (gathered_by {s = s} ro i shut)

    recovery_write_closed : r.purpose ≡ recovery_write → Kept n buckets now taken p log (checking n p b s)
    recovery_write_closed i =
        let f = phase i in
        checking_kept ok
        (record {
          ready = h;
          recovered = ap (λ v. v.election) (f.0 ∙ f.1);
          chosen = rw f.0 (closed_chosen n r ro.marks shut b ro.at f.4);
          unsent = f.2;
          unwritten = f.3;
        })

    check_closed : r.purpose ≡ check → Kept n buckets now taken p log (after_read n p b s)
    check_closed i =
        let f = phase i in
        after_read_kept ok
        (record { ready = h; recovered = ap (λ v. v.election) f.0 ∙ f.1; chosen = rw f.0 f.4; unsent = f.2; unwritten = f.3 })
        (confirmed_by ro i shut)

    own_write_closed : r.purpose ≡ own_write → Kept n buckets now taken p log (finish b done s)
    own_write_closed i =
        let f = phase i in
        let chosen = closed_chosen n r ro.marks shut b ro.at f.8 in
        finish_kept ok h done (λ e. rw f.0 chosen) (by_write refl f.3 f.4 f.7 (rw (f.5, f.6) chosen))

    pub closed_kept : Kept n buckets now taken p log (closed n p b r s)
    unfolding closed
    closed_kept = go r.purpose refl
      where
        go : (u : Purpose) → r.purpose ≡ u
            → Kept n buckets now taken p log
            (elim u as (λ _. Reaction) [
              | recovery_read ↦ recovering n p b r.best.table s
              | recovery_write ↦ checking n p b s
              | check ↦ after_read n p b s
              | own_write ↦ finish b done s
            ])
        go recovery_read i = recovery_read_closed i
        go recovery_write i = recovery_write_closed i
        go check i = check_closed i
        go own_write i = own_write_closed i
