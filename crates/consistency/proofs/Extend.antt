-- The facts of the log hold with one entry more, for each kind of entry, under the condition that its rule meets.
use mathlib.Core.Path.{◌≡◌, refl, sym, ◌∙◌, ap}
use mathlib.Core.Logic.{inl, inr}
use mathlib.Core.List.Memᴰ
use mathlib.Core.List.{List}
use mathlib.Core.Option.{some}
use Prim.Native.Nat.{ℕ, suc, ◌≤◌, ◌<◌}
use native.Mathlib.Omega.{arith}
use Rattle.entries.specs.Entries.{Entry}
use Rattle.model.specs.Cluster.{Version, check}
use Rattle.history.specs.Members.{◌∈◌}
use Rattle.history.specs.Version.{◌≼◌}
use Rattle.history.proofs.MemberLaws.{each_cons}
use Rattle.consistency.proofs.Majorities.{MajorityOf}
use Rattle.consistency.proofs.Log.{Vote, Win, Write, Accept, Report, Opened, Check, Begun, Ended, Log}
use Rattle.consistency.proofs.Claims.{Won, Holds, later, Reported}
use Rattle.consistency.proofs.Claims
use Rattle.consistency.proofs.Invariant.{Unwritten, Unended, Origin, Succeeds, WriteFacts, RoundFacts, EndOk, CallFacts, LogOk}
use Rattle.consistency.proofs.Growth.{won_grows}
use Rattle.consistency.proofs.Acts.{add_vote, add_win, add_write, add_accept, add_report, add_round, add_check, add_begun, add_ended}
use Rattle.consistency.proofs.Carry.{same, more, each_two, grows_vote, grows_win, grows_write, grows_accept, grows_report, grows_round, grows_check, grows_begun, grows_ended, origin_grows, succeeds_grows, end_grows, end_stays, votes_stay, writes_stay, rounds_stay, calls_stay, time_stays}

pub later_line : {n now taken : ℕ} {log : Log} → LogOk n now taken log → LogOk n (suc now) taken log
later_line ok =
    record {
      votes = ok.votes;
      writes = ok.writes;
      rounds = ok.rounds;
      calls = ok.calls;
      time =
          record {
            wins = λ x m. omega (arith, ok.time.wins x m);
            writes = λ x m. omega (arith, ok.time.writes x m);
            rounds = λ x m. omega (arith, ok.time.rounds x m);
            begins = λ x m. omega (arith, ok.time.begins x m);
            ends = λ x m. omega (arith, ok.time.ends x m);
            numbers = ok.time.numbers;
          };
    }

-- ---- with a write of a new version
module _ {n now taken : ℕ} {log : Log} (ok : LogOk n now taken log) (x : Write) (line : x.line ≡ now) (positive : 1 ≤ x.at.election)
    (fresh : (w : Write) → w ∈ log.writes → w.bucket ≡ x.bucket → w.at ≡ x.at → ⊥) where
  -- a version that holds a table, that a checking round looks at, or that answered a check, is not the new one
  not_held : {b : ℕ} {v : Version} {l : List Entry} → Holds log b v l → x.bucket ≡ b → x.at ≡ v → ⊥
  not_held (Claims.Holds.first e f) i j = omega (arith, ap (λ u. u.election) (j ∙ e))
  not_held (later w m e f h) i j = fresh w m (e ∙ sym i) (f ∙ sym j)

  not_looked_at : (o : Opened) → o ∈ log.rounds → o.purpose ≡ check → x.bucket ≡ o.bucket → x.at ≡ o.at → ⊥
  not_looked_at o m p i j = let z = ok.rounds.looks_at o m p in fresh z.0 z.1 (z.2 ∙ sym i) (z.3 ∙ sym j)

  not_checked : (c : Check) → c ∈ log.checks → x.bucket ≡ c.bucket → x.at ≡ c.at → ⊥
  not_checked c m i j = let z = ok.calls.confirmed c m in not_looked_at z.1 z.2 z.3 (i ∙ sym z.4) (j ∙ sym z.5)

  writes_with : 1 ≤ x.at.counter → Origin log x → Succeeds n log x
      → (y : Win) → y ∈ log.wins → y.election ≡ x.at.election
      → ((i : ℕ) → x.call ≡ some i → Unwritten log i)
      → WriteFacts n (add_write x log)
  writes_with counter origin succeeds y m e unwritten =
      let g = grows_write {log = log} x in
      let f = ok.writes in
      record {
        unique = each_two (λ i j. refl) (λ w k. (λ i j. absurd (fresh w k (sym i) (sym j)), λ i j. absurd (fresh w k i j))) f.unique;
        positive = each_cons (positive, counter) f.positive;
        origin =
            each_cons
            (origin_grows g (each_cons (λ i j. omega arith) origin.older) origin)
            (λ w k. let o = f.origin w k in origin_grows g (each_cons (λ i j. absurd (not_held o.holds i j)) o.older) o);
        succeeds = each_cons (succeeds_grows g succeeds) (λ w k. succeeds_grows g (f.succeeds w k));
        won = each_cons (y, m, e, omega (arith, ok.time.wins y m)) f.won;
        once = each_two (λ i j k. refl) (λ w k. (λ i j l. absurd (unwritten i j w k l), λ i j l. absurd (unwritten i l w k j))) f.once;
      }

  rounds_with : RoundFacts (add_write x log)
  rounds_with =
      let f = ok.rounds in
      record {
        won = λ o m. won_grows (grows_write x) (f.won o m);
        unique = f.unique;
        reported = f.reported;
        bounded = f.bounded;
        accepted = λ a m. let z = f.accepted a m in (z.0, more _ z.1, z.2, z.3);
        promised = f.promised;
        -- no round opened after the present line
        newest = λ o m p. each_cons (λ i j l. absurd (omega (arith, ok.time.rounds o m))) (f.newest o m p);
        written = λ o m p. each_cons (λ i j. absurd (not_looked_at o m p i j)) (f.written o m p);
        looks_at = λ o m p. let z = f.looks_at o m p in (z.0, more _ z.1, z.2, z.3);
        under = f.under;
        unseated = f.unseated;
      }

  calls_with : ((i : ℕ) → x.call ≡ some i → Unended log i) → CallFacts n (add_write x log)
  calls_with unended =
      let f = ok.calls in
      record {
        begun_once = f.begun_once;
        in_turn = f.in_turn;
        ended_once = f.ended_once;
        ended_begun = f.ended_begun;
        written_before = λ u m. each_cons (λ i. absurd (unended _ i u m refl)) (f.written_before u m);
        justified = λ u m.
            end_grows
            (grows_write x)
            (each_cons (λ i. unended _ i u m refl))
            (λ c k. each_cons (λ i j. absurd (not_checked c k i j)) (λ w l i j. l))
            (f.justified u m);
        confirmed = f.confirmed;
      }

module _ {n now taken : ℕ} {log : Log} (ok : LogOk n now taken log) where
  -- a fresh vote: above every earlier vote of the server
  pub vote_added : (x : Vote) → ((y : Vote) → y ∈ log.votes → y.server ≡ x.server → y.election < x.election) → LogOk n now taken (add_vote x log)
  vote_added x fresh =
      let g = grows_vote {log = log} x in
      record {
        votes =
            record {
              one_vote = each_two (λ i j. refl) (λ y m. (λ i j. absurd (omega (arith, fresh y m (sym i))), λ i j. absurd (omega (arith, fresh y m i)))) ok.votes.one_vote;
              quorate = ok.votes.quorate;
              voted = λ w m q i. more _ (ok.votes.voted w m q i);
            };
        writes = writes_stay g same ok.writes;
        rounds = rounds_stay g same same same same same ok.rounds;
        calls = calls_stay g same same same same ok.calls;
        time = time_stays same same same same same ok.time;
      }

  pub win_added : (x : Win) → x.line ≡ now → MajorityOf n x.members
      → ((q : ℕ) → q ∈ x.members → record { server = q; election = x.election; leader = x.leader } ∈ log.votes)
      → LogOk n now taken (add_win x log)
  win_added x line most votes =
      let g = grows_win {log = log} x in
      let f = ok.rounds in
      let t = ok.time in
      record {
        votes =
            record {
              one_vote = ok.votes.one_vote;
              quorate = each_cons most ok.votes.quorate;
              voted = each_cons votes ok.votes.voted;
            };
        writes = writes_stay g same ok.writes;
        rounds =
            record {
              won = λ o m. won_grows g (f.won o m);
              unique = f.unique;
              reported = f.reported;
              bounded = f.bounded;
              accepted = f.accepted;
              promised = f.promised;
              newest = f.newest;
              written = f.written;
              looks_at = f.looks_at;
              under = f.under;
              -- no round opened after the present line
              unseated = λ r o y m k j e n h l. elim (Memᴰ.cases_cons j) [
                | inl i ↦ absurd (omega (arith, ap (λ v. v.line) i, t.rounds o k))
                | inr i ↦ f.unseated r o y m k i e n h l
              ];
            };
        calls = calls_stay g same same same same ok.calls;
        time =
            record {
              wins = each_cons (omega arith) t.wins;
              writes = t.writes;
              rounds = t.rounds;
              begins = t.begins;
              ends = t.ends;
              numbers = t.numbers;
            };
      }

  -- an acknowledged write: under a number no lower than any the server has reported under
  pub accept_added : (x : Accept) → (w : Write) → w ∈ log.writes → w.bucket ≡ x.bucket → w.at ≡ x.at
      → ((r : Report) → r ∈ log.reports → r.server ≡ x.server → r.election ≤ x.at.election)
      → LogOk n now taken (add_accept x log)
  accept_added x w m e f high =
      let g = grows_accept {log = log} x in
      let h = ok.rounds in
      record {
        votes = votes_stay g same same ok.votes;
        writes = writes_stay g same ok.writes;
        rounds =
            record {
              won = λ o k. won_grows g (h.won o k);
              unique = h.unique;
              reported = h.reported;
              bounded = h.bounded;
              accepted = each_cons (w, m, e, f) h.accepted;
              promised = λ a r k l i j b. elim (Memᴰ.cases_cons k) [
                | inl p ↦ absurd (omega (arith, high r l (sym i ∙ ap (λ v. v.server) p), ap (λ v. v.at.election) p))
                | inr p ↦ h.promised a r p l i j b
              ];
              newest = h.newest;
              written = h.written;
              looks_at = h.looks_at;
              under = h.under;
              unseated = h.unseated;
            };
        calls = calls_stay g same same same same ok.calls;
        time = time_stays same same same same same ok.time;
      }

  -- an acknowledged read: of a version no lower than any the server has accepted, under a number no lower than any vote of it
  pub report_added : (x : Report) → (o : Opened) → o ∈ log.rounds → o.election ≡ x.election → o.number ≡ x.round
      → x.at.election ≤ x.election
      → ((a : Accept) → a ∈ log.accepts → a.server ≡ x.server → a.bucket ≡ x.bucket → a.at ≼ x.at)
      → ((v : Vote) → v ∈ log.votes → v.server ≡ x.server → v.election ≤ x.election)
      → LogOk n now taken (add_report x log)
  report_added x o m e f bound newest high =
      let g = grows_report {log = log} x in
      let h = ok.rounds in
      record {
        votes = votes_stay g same same ok.votes;
        writes = writes_stay g same ok.writes;
        rounds =
            record {
              won = λ p k. won_grows g (h.won p k);
              unique = h.unique;
              reported = each_cons (o, m, e, f) h.reported;
              bounded = each_cons bound h.bounded;
              accepted = h.accepted;
              promised = λ a r k l i j b. elim (Memᴰ.cases_cons l) [
                | inl p ↦ rw (ap (λ v. v.at) p) (newest a k (i ∙ ap (λ v. v.server) p) (j ∙ ap (λ v. v.bucket) p))
                | inr p ↦ h.promised a r k p i j b
              ];
              newest = h.newest;
              written = h.written;
              looks_at = h.looks_at;
              under = h.under;
              -- the server voted under no higher number
              unseated = λ r p y k l j a n b c i. elim (Memᴰ.cases_cons k) [
                | inl q ↦ omega (arith, high _ (ok.votes.voted y j _ i) (ap (λ v. v.server) q), ap (λ v. v.election) q)
                | inr q ↦ h.unseated r p y q l j a n b c i
              ];
            };
        calls = calls_stay g same same same same ok.calls;
        time = time_stays same same same same same ok.time;
      }

  -- an opened round: above every earlier round under its number; a checking round looks at the newest write under its number
  pub round_added : (x : Opened) → x.line ≡ now → Won log x.election x.leader
      → ((o : Opened) → o ∈ log.rounds → o.election ≡ x.election → o.number < x.number)
      → (x.purpose ≡ check →
      ((w : Write) → w ∈ log.writes → w.bucket ≡ x.bucket → w.at.election ≡ x.at.election → w.at ≼ x.at)
      × (x.at.election ≡ x.election)
      × (w : Write) × (w ∈ log.writes) × (w.bucket ≡ x.bucket) × (w.at ≡ x.at))
      → LogOk n now taken (add_round x log)
  round_added x line won above look =
      let g = grows_round {log = log} x in
      let f = ok.rounds in
      let t = ok.time in
      record {
        votes = votes_stay g same same ok.votes;
        writes = writes_stay g same ok.writes;
        rounds =
            record {
              won = each_cons (won_grows g won) (λ o m. won_grows g (f.won o m));
              unique = each_two (λ i j. refl) (λ o m. (λ i j. absurd (omega (arith, above o m (sym i))), λ i j. absurd (omega (arith, above o m i)))) f.unique;
              reported = λ r m. let z = f.reported r m in (z.0, more _ z.1, z.2, z.3);
              bounded = f.bounded;
              accepted = f.accepted;
              promised = f.promised;
              newest = each_cons (λ p w m i j h. (look p).0 w m i j) f.newest;
              written = each_cons (λ p w m i j. omega (arith, t.writes w m)) f.written;
              looks_at = each_cons (λ p. ((look p).2, (look p).3, (look p).4, (look p).5)) f.looks_at;
              under = each_cons (λ p. (look p).1) f.under;
              -- nothing was reported in a round that is new
              unseated = λ r o y m k j e n h l. elim (Memᴰ.cases_cons k) [
                | inl i ↦
                    let z = f.reported r m in
                    absurd (omega (arith, above z.0 z.1 (z.2 ∙ sym e ∙ ap (λ v. v.election) i), z.3, ap (λ v. v.number) i))
                | inr i ↦ f.unseated r o y m i j e n h l
              ];
            };
        calls = calls_stay g same same same same ok.calls;
        time =
            record {
              wins = t.wins;
              writes = t.writes;
              rounds = each_cons (omega arith) t.rounds;
              begins = t.begins;
              ends = t.ends;
              numbers = t.numbers;
            };
      }

  -- a write of a new version
  pub write_added : (x : Write) → x.line ≡ now → 1 ≤ x.at.election → 1 ≤ x.at.counter
      → ((w : Write) → w ∈ log.writes → w.bucket ≡ x.bucket → w.at ≡ x.at → ⊥)
      → Origin log x → Succeeds n log x
      → (y : Win) → y ∈ log.wins → y.election ≡ x.at.election
      → ((i : ℕ) → x.call ≡ some i → Unwritten log i × Unended log i)
      → LogOk n now taken (add_write x log)
  write_added x line pe pc fresh origin succeeds y m e call =
      let t = ok.time in
      record {
        votes = votes_stay (grows_write {log = log} x) same same ok.votes;
        writes = writes_with ok x line pe fresh pc origin succeeds y m e (λ i j. (call i j).0);
        rounds = rounds_with ok x line pe fresh;
        calls = calls_with ok x line pe fresh (λ i j. (call i j).1);
        time =
            record {
              wins = t.wins;
              writes = each_cons (omega arith) t.writes;
              rounds = t.rounds;
              begins = t.begins;
              ends = t.ends;
              numbers = t.numbers;
            };
      }

  pub begun_added : (x : Begun) → x.number ≡ suc taken → x.line ≡ now → LogOk n now (suc taken) (add_begun x log)
  begun_added x number line =
      let g = grows_begun {log = log} x in
      let f = ok.calls in
      let t = ok.time in
      record {
        votes = votes_stay g same same ok.votes;
        writes = writes_stay g same ok.writes;
        rounds = rounds_stay g same same same same same ok.rounds;
        calls =
            record {
              begun_once = each_two (λ i. refl) (λ u k. (λ i. absurd (omega (arith, t.numbers u k)), λ i. absurd (omega (arith, t.numbers u k)))) f.begun_once;
              in_turn = each_two (λ i. absurd (omega arith)) (λ u k. (λ i. absurd (omega (arith, t.begins u k)), λ i. omega (arith, t.numbers u k))) f.in_turn;
              ended_once = f.ended_once;
              ended_begun = λ u k. let z = f.ended_begun u k in (z.0, more _ z.1, z.2, z.3);
              written_before = f.written_before;
              justified = λ u k. end_stays g same (f.justified u k);
              confirmed = f.confirmed;
            };
        time =
            record {
              wins = t.wins;
              writes = t.writes;
              rounds = t.rounds;
              begins = each_cons (omega arith) t.begins;
              ends = t.ends;
              numbers = each_cons (omega arith) (λ u k. omega (arith, t.numbers u k));
            };
      }

  pub ended_added : (x : Ended) → x.line ≡ now → Unended log x.number
      → (y : Begun) → y ∈ log.begins → y.number ≡ x.number → EndOk n log x
      → LogOk n now taken (add_ended x log)
  ended_added x line still y m e good =
      let g = grows_ended {log = log} x in
      let f = ok.calls in
      let t = ok.time in
      record {
        votes = votes_stay g same same ok.votes;
        writes = writes_stay g same ok.writes;
        rounds = rounds_stay g same same same same same ok.rounds;
        calls =
            record {
              begun_once = f.begun_once;
              in_turn = f.in_turn;
              ended_once = each_two (λ i. refl) (λ u k. (λ i. absurd (still u k (sym i)), λ i. absurd (still u k i))) f.ended_once;
              ended_begun = each_cons (y, m, e, omega (arith, t.begins y m)) f.ended_begun;
              written_before = each_cons (λ w k i. omega (arith, t.writes w k)) f.written_before;
              justified = each_cons (end_stays g same good) (λ u k. end_stays g same (f.justified u k));
              confirmed = f.confirmed;
            };
        time =
            record {
              wins = t.wins;
              writes = t.writes;
              rounds = t.rounds;
              begins = t.begins;
              ends = each_cons (omega arith) t.ends;
              numbers = t.numbers;
            };
      }

  -- a check that a majority confirmed
  pub check_added : (x : Check) → MajorityOf n x.members
      → (o : Opened) → o ∈ log.rounds → o.purpose ≡ check → o.bucket ≡ x.bucket → o.at ≡ x.at → o.line ≡ x.line
      → ((q : ℕ) → q ∈ x.members → (r : Version) × Reported log q x.bucket o.election o.number r)
      → LogOk n now taken (add_check x log)
  check_added x most o m p b a l confirmed =
      let g = grows_check {log = log} x in
      let f = ok.calls in
      record {
        votes = votes_stay g same same ok.votes;
        writes = writes_stay g same ok.writes;
        rounds = rounds_stay g same same same same same ok.rounds;
        calls =
            record {
              begun_once = f.begun_once;
              in_turn = f.in_turn;
              ended_once = f.ended_once;
              ended_begun = f.ended_begun;
              written_before = f.written_before;
              justified = λ u k. end_stays g same (f.justified u k);
              confirmed = each_cons (most, o, m, p, b, a, l, confirmed) f.confirmed;
            };
        time = time_stays same same same same same ok.time;
      }
