-- What stands behind the answers of every script, in the log that its run leaves: an answer that was read is fresh, and a call
-- that ended as `notdone` wrote nothing.
use mathlib.Core.Path.{◌≡◌, refl, sym, ◌∙◌, subst}
use mathlib.Core.List.Memᴰ
use mathlib.Core.List.{List}
use mathlib.Core.Option.{Option, none, some}
use Prim.Native.Nat.{ℕ, ◌+◌, ◌≤◌, ◌<◌}
use native.Mathlib.Omega.{arith}
use native.Mathlib.Decide.{dec_le}
use lib.ListN.{length, take}
use Rattle.entries.specs.Entries.{Entry}
use Rattle.model.specs.Calls.{done, notdone, unknown, answers, effect}
use Rattle.model.specs.Cluster.{Version, copy_at, Cluster}
use Rattle.model.specs.Lines.{initial_state}
use Rattle.model.specs.Run.{state_after}
use Rattle.history.specs.Members.{◌∈◌}
use Rattle.history.specs.Version.{◌≼◌}
use Rattle.history.proofs.MemberLaws.{none_in, clash}
use Rattle.history.proofs.Freshness.{fresh}
use Rattle.consistency.proofs.Majorities.{MajorityOf, quorums}
use Rattle.consistency.specs.Statement.{Begin, End, begins, ends, OneOrder}
use Rattle.consistency.proofs.Log.{Win, Write, Check, Ended, Log}
use Rattle.consistency.proofs.Claims.{Holds, first, later}
use Rattle.consistency.proofs.Invariant.{Unwritten, EndOk, undone, unsure, by_write, by_check}
use Rattle.consistency.proofs.OneBucket.{write_of, check_of, win_of, said, history_of}
use Rattle.consistency.proofs.BucketMembers.{part_has}
use Rattle.consistency.proofs.BucketFacts.{facts_of}
use Rattle.consistency.proofs.Runs.{begin_of, end_of, RunOk, Passed, Ran, ran_of, script_leaves}
use Rattle.consistency.proofs.Reached.{server_in}
use Rattle.consistency.proofs.Agreed.{copy_held}

-- the log that the run of a script leaves
abbrev pub log_of : List (List ℕ) → Log
log_of ls = (script_leaves ls).log

-- a fresh answer: a checking round, opened between the call's begin and its end and confirmed by a majority of n servers, looked at
-- a version of the leader's copy. No higher election had been won when the round opened, no newer version had been written, and
-- the call's effect at that version's table is the answer that was printed
pub record Fresh (n : ℕ) (log : Log) (bs : List Begin) (y : End) : Type 0 where
  pub call : Begin
  pub begun : call ∈ bs
  pub own : call.number ≡ y.number
  pub check : Check
  pub made : check ∈ log.checks
  pub bucket : check.bucket ≡ call.bucket
  pub after : call.line ≤ check.line
  pub before : check.line ≤ y.line
  pub confirmed : MajorityOf n check.members
  pub unbeaten : (x : Win) → x ∈ log.wins → check.at.election < x.election → check.line ≤ x.line
  pub newest : (w : Write) → w ∈ log.writes → w.bucket ≡ call.bucket → w.line < check.line → w.at ≼ check.at
  pub table : List Entry
  pub holds : Holds log call.bucket check.at table
  pub answer : effect call.words table ≡ answers y.result

module _ {o : Option Cluster} {log : Log} {bs : List Begin} {es : List End} (ran : Ran o log bs es) where
  -- an entry of the log for each printed answer
  entry_for : (y : End) → y ∈ es → (z : Ended) × (z ∈ log.ends) × (end_of z ≡ y)
  entry_for y m = Memᴰ.of_map end_of log.ends (ran.same.ended y m)

  fresh_by : (z : Ended) → EndOk ran.servers log z → (z.result ≡ done → ⊥) → (z.result ≡ unknown → ⊥) → (z.result ≡ notdone → ⊥) → Fresh ran.servers log bs (end_of z)
  unfolding said
  fresh_by z (undone e u) x y w = absurd (w e)
  fresh_by z (unsure e) x y w = absurd (y e)
  fresh_by z (by_write e a b c d) x y w = absurd (x e)
  fresh_by z (by_check c m own before chosen y begun same bucket after right unwritten) _ _ _ =
      let facts = facts_of ran.servers ran.now ran.taken ran.facts c.bucket in
      let h = history_of log c.bucket in
      let there : check_of c ∈ h.checks = part_has (λ d. d.bucket) check_of c.bucket log.checks m refl in
      let (confirmed, o, k, check, here, at, line, reports) = ran.facts.calls.confirmed c m in
      let (w, n, i, v) = ran.facts.rounds.looks_at o k check in
      let held : Holds log c.bucket c.at w.table = later w n (i ∙ here) (v ∙ at) refl in
      record {
        call = begin_of y;
        begun = ran.same.begins _ (Memᴰ.map begin_of begun);
        own = same;
        check = c;
        made = m;
        bucket = sym bucket;
        after = after;
        before = before;
        confirmed = confirmed;
        unbeaten = λ x j l. elim (dec_le c.line x.line) [
          | yes in_time ↦ in_time
          | no early ↦
              let (q, a, b) = (quorums ran.servers).meet c.members x.members confirmed (ran.facts.votes.quorate x j) in
              absurd (facts.unseated (check_of c) there (win_of x) (Memᴰ.map win_of j) l (omega arith) q a b)
        ];
        newest = λ x j l. fresh h facts (check_of c) there confirmed (write_of x) (part_has (λ w. w.bucket) write_of c.bucket log.writes j (l ∙ bucket));
        table = w.table;
        holds = rw bucket held;
        answer = right w.table held;
      }

  unwritten_by : (z : Ended) → EndOk ran.servers log z → z.result ≡ notdone → Unwritten log z.number
  unwritten_by z (undone e u) r = u
  unwritten_by z (unsure e) r = clash cc
  unwritten_by z (by_write e a b c d) r = clash cc
  unwritten_by z (by_check c m own before chosen y begun same bucket after right unwritten) r = unwritten

-- ---- a leader that has lost its majority gives no answer from its own copy

-- every answer `value`, `keys`, `mismatch` or `full` is fresh
pub answers_are_fresh : (ls : List (List ℕ)) (c : Cluster) → (state_after initial_state ls).cluster ≡ some c
    → (y : End) → y ∈ ends ls → (y.result ≡ done → ⊥) → (y.result ≡ unknown → ⊥) → (y.result ≡ notdone → ⊥) → Fresh (length c.servers) (log_of ls) (begins ls) y
answers_are_fresh ls c stands y m =
    let ran = ran_of (script_leaves ls) in
    let (z, k, e) = entry_for ran y m in
    rw (← ran.size c stands)
    (subst (λ (x : End). (x.result ≡ done → ⊥) → (x.result ≡ unknown → ⊥) → (x.result ≡ notdone → ⊥) → Fresh ran.servers (log_of ls) (begins ls) x) e
    (fresh_by ran z (ran.facts.calls.justified z k)))

-- what has been written by a state that was passed
written_by_then : (now count b : ℕ) (o : Option Cluster) (log : Log) → RunOk now o count b log → (w : Write) → w ∈ log.writes → w.line ≤ now
written_by_then now count b none log (e, f) w m = none_in (subst (λ l. w ∈ l.writes) e m)
written_by_then now count b (some c) log h w m = h.0.facts.time.writes w m

-- no server, in any state before the line in which the checking round opened (no earlier than the call's own line), stored a newer
-- version than the one that the call was answered at
pub no_newer_copy : (ls : List (List ℕ)) {n : ℕ} {y : End} (f : Fresh n (log_of ls) (begins ls) y) (k : ℕ) → k < f.check.line
    → (p : ℕ) → (copy_at (server_in (state_after initial_state (take k ls)) p).stored f.call.bucket).version ≼ f.check.at
no_newer_copy ls f k before p = go (copy_held h.now h.count h.buckets (state_after initial_state (take k ls)).cluster h.log h.agrees p f.call.bucket)
  where
    h : Passed (0 + k) (state_after initial_state (take k ls)) (log_of ls)
    h = (script_leaves ls).passed k

    go : {x : Version} {t : List Entry} → Holds h.log f.call.bucket x t → x ≼ f.check.at
    go (first e i) = rw e (record { elections = omega arith; counters = λ l. omega arith })
    go (later w m i j l) =
        let then = written_by_then h.now h.count h.buckets (state_after initial_state (take k ls)).cluster h.log h.agrees w m in
        rw (← j) (f.newest w (h.grows.writes w m) i (omega (arith, h.early)))

-- ---- a call that ended as `notdone` has no effect

-- it stands in no order
pub undone_in_no_order : (ls : List (List ℕ)) (b : ℕ) (o : OneOrder (begins ls) (ends ls) b) (y : End) → y ∈ ends ls → y.result ≡ notdone → y.number ∈ o.order → ⊥
undone_in_no_order ls b o y m e k = o.no_notdone y.number k y m refl e

-- and nothing was ever written for it
pub undone_writes_nothing : (ls : List (List ℕ)) (y : End) → y ∈ ends ls → y.result ≡ notdone → (w : Write) → w ∈ (log_of ls).writes → w.call ≡ some y.number → ⊥
undone_writes_nothing ls y m =
    let ran = ran_of (script_leaves ls) in
    let (z, k, e) = entry_for ran y m in
    subst (λ (x : End). x.result ≡ notdone → Unwritten (log_of ls) x.number) e (unwritten_by ran z (ran.facts.calls.justified z k))
