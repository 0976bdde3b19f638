-- A reply reaches a server: it is counted, and then the round closes, fails or stays open.
use mathlib.Core.Path.{◌≡◌, refl, sym, ◌∙◌, ap}
use mathlib.Core.Logic.{◌⊎◌, inl, inr}
use mathlib.Core.List.{List, []}
use mathlib.Core.Bool.{Bool, true, false}
use mathlib.Core.Option.{Option, none, some}
use Prim.Native.Nat.{ℕ, ◌≤◌, ◌<◌}
use native.Mathlib.Omega.{arith}
use native.Mathlib.Decide.{ℕ_discrete, dec_lt}
use lib.Dec.{eqb}
use lib.ListN.{length, get_or, set, length-set, get_or-eq_default}
use lib.Seq.{get_or-set_same, get_or-set_other}
use borrow.Author.Tests.{eqb-true}
use Rattle.model.specs.Cluster.{Version, above, Copy, fresh_copy, copy_at, Role, follower, candidate, leading, Purpose, recovery_read, recovery_write, check, own_write, Mark, silent, acknowledged, refused, Round, Call, round_at, call_at, Server, Message, ack_write, ack_read}
use Rattle.model.specs.Leader.{Reaction, no_reaction, closes, fails, cease, closed, better, marked_by, report_to, counted, with_round, counting, on_reply}
use Rattle.history.specs.Members.{◌∈◌}
use Rattle.history.specs.Version.{◌≼◌}
use Rattle.history.proofs.MemberLaws.{none_in}
use Rattle.history.proofs.VersionLaws.{le_refl, le_trans, le_of_lt}
use Rattle.consistency.proofs.Log.{Opened, Log}
use Rattle.consistency.proofs.Claims.{Holds, first, RoundOf, Reported, Accepted, MessageOk, BodyOk}
use Rattle.consistency.proofs.Claims
use Rattle.consistency.proofs.Invariant.{LogOk, MarksAccepted, MarksReported, PhaseOk, RoundOk, BucketOk, RoleOk, ServerOk}
use Rattle.consistency.proofs.Acts.{Kept}
use Rattle.consistency.proofs.Above.{above_lt, above_not}
use Rattle.consistency.proofs.Chaining.{unmoved}
use Rattle.consistency.proofs.Ceasing.{cease_kept, as_unsettled}
use Rattle.consistency.proofs.Ready.{Leads, Ready, Bucket, leader_of, round_agrees}
use Rattle.consistency.proofs.Chain.{closed_kept}

-- what the reply of server q to round k under e on bucket b says, with its mark and the copy it reports
pub record ReplyOk (log : Log) (p q b e k : ℕ) (mark : Mark) (report : Copy) : Type 0 where
  -- an acknowledgement of a write: q accepted the round's version; of a read: q reported the copy
  pub accepted : mark ≡ acknowledged → (o : Opened) → o ∈ log.rounds → o.election ≡ e → o.number ≡ k → Claims.writing o.purpose ≡ true → Accepted log q b o.at
  pub reported : mark ≡ acknowledged → (o : Opened) → o ∈ log.rounds → o.election ≡ e → o.number ≡ k → Claims.writing o.purpose ≡ false → Reported log q b e k report.version
  pub holds : Holds log b report.version report.table
  pub below : report.version.election ≤ e

-- a server without a mark has a place among the marks
silent_inside : (marks : List Mark) (q : ℕ) → get_or marks q refused ≡ silent → q < length marks
silent_inside marks q e = elim (dec_lt q (length marks)) [
  | yes l ↦ l
  | no l ↦ let f : get_or marks q refused ≡ refused = get_or-eq_default marks refused (omega arith) in let z : ◌≡◌ {A = ℕ} 0 1 = cc in absurd (omega arith)
]

set_cases : (marks : List Mark) (q : ℕ) (m : Mark) (i : ℕ) → Dec (i ≡ q) → get_or marks q refused ≡ silent → get_or (set marks q m) i silent ≡ acknowledged
    → (get_or marks i silent ≡ acknowledged) ⊎ ((i ≡ q) × (m ≡ acknowledged) × (get_or marks q refused ≡ silent))
set_cases marks q m i (yes j) e h =
    let k : get_or (set marks q m) i silent ≡ m = rw j (get_or-set_same marks q m silent (silent_inside marks q e)) in
    inr (j, sym k ∙ h, e)
set_cases marks q m i (no d) e h = inl (sym (get_or-set_other marks q i m silent d) ∙ h)

-- a mark that is set after the reply was set before, or is the reply's own
pub marked_before : (marks : List Mark) (q : ℕ) (m : Mark) (i : ℕ) → get_or (marked_by q m marks) i silent ≡ acknowledged
    → (get_or marks i silent ≡ acknowledged) ⊎ ((i ≡ q) × (m ≡ acknowledged) × (get_or marks q refused ≡ silent))
unfolding marked_by
marked_before marks q m i = go (get_or marks q refused) refl
  where
    go : (t : Mark) → get_or marks q refused ≡ t
        → get_or (elim t as (λ _. List Mark) [ silent ↦ set marks q m | acknowledged ↦ marks | refused ↦ marks ]) i silent ≡ acknowledged
        → (get_or marks i silent ≡ acknowledged) ⊎ ((i ≡ q) × (m ≡ acknowledged) × (get_or marks q refused ≡ silent))
    go silent e h = set_cases marks q m i (ℕ_discrete i q) e h
    go acknowledged e h = inl h
    go refused e h = inl h

pub marked_length : (marks : List Mark) (q : ℕ) (m : Mark) → length (marked_by q m marks) ≡ length marks
unfolding marked_by
marked_length marks q m =
    elim (get_or marks q refused) as (λ t. length {A = Mark} (elim t as (λ _. List Mark) [ silent ↦ set marks q m | acknowledged ↦ marks | refused ↦ marks ]) ≡ length marks)
    [ silent ↦ simp length-set | acknowledged ↦ refl | refused ↦ refl ]

-- the better of two copies is one of them, and above both
module _ (old new : Copy) where
  pub better_is : (P : Copy → Type 0) → P old → P new → P (better old new)
  unfolding better
  better_is P a b = elim (above new.version old.version) as (λ t. P (elim t as (λ _. Copy) [ true ↦ new | false ↦ old ])) [ true ↦ b | false ↦ a ]

  pub better_both : (old.version ≼ (better old new).version) × (new.version ≼ (better old new).version)
  unfolding better
  better_both = go (above new.version old.version) refl
    where
      go : (t : Bool) → above new.version old.version ≡ t
          → (old.version ≼ (elim t as (λ _. Copy) [ true ↦ new | false ↦ old ]).version) × (new.version ≼ (elim t as (λ _. Copy) [ true ↦ new | false ↦ old ]).version)
      go true e = (le_of_lt (above_lt _ _ e), le_refl _)
      go false e = (le_refl _, above_not _ _ e)

-- ---- the round with the reply counted

module _ {n : ℕ} {log : Log} {p e b : ℕ} {copy : Copy} {r : Round} {c : Call} (ro : RoundOk n log p e b copy r c) {q : ℕ} {mark : Mark} {report : Copy}
    (reply : ReplyOk log p q b e r.number mark report) where
  abbrev after : Round
  after = counted q mark report r

  -- a new mark on a writing round is an acceptance
  accepted_marks : Claims.writing r.purpose ≡ true → MarksAccepted log b ro.at r.marks → MarksAccepted log b ro.at (marked_by q mark r.marks)
  accepted_marks kind h i m =
      elim (marked_before r.marks q mark i m) [
        | inl o ↦ h i o
        | inr x ↦ rw x.0 (reply.accepted x.1 _ ro.opened refl refl kind)
      ]

  -- and on a reading round a report
  reported_marks : (P R : Version → Type 0) → ((v : Version) → P v → R v) → (get_or r.marks q refused ≡ silent → R report.version) → Claims.writing r.purpose ≡ false
      → MarksReported log b e r.number P r.marks → MarksReported log b e r.number R (marked_by q mark r.marks)
  reported_marks P R f new kind h i m =
      elim (marked_before r.marks q mark i m) [
        | inl o ↦ let y = h i o in (y.0, y.1, f _ y.2)
        | inr x ↦ rw x.0 (report.version, reply.reported x.1 _ ro.opened refl refl kind, new x.2)
      ]

  -- what is kept of the best copy of a recovery read
  pub record BestOk (x : Copy) : Type 0 where
    pub holds : Holds log b x.version x.table
    pub below : x.version.election ≤ e
    pub above : r.best.version ≼ x.version
    pub new : get_or r.marks q refused ≡ silent → report.version ≼ x.version

  best_after : r.purpose ≡ recovery_read → Holds log b r.best.version r.best.table → r.best.version.election ≤ e → BestOk after.best
  unfolding counted report_to
  best_after i h l = go (get_or r.marks q refused) refl
    where
      same : report_to r.purpose report ≡ report
      same = ap (λ u. report_to u report) i

      go : (t : Mark) → get_or r.marks q refused ≡ t
          → BestOk (elim t as (λ _. Copy) [ silent ↦ better r.best (report_to r.purpose report) | acknowledged ↦ r.best | refused ↦ r.best ])
      go silent j =
          rw same
          (let both = better_both r.best report in
          record {
            holds = better_is r.best report (λ x. Holds log b x.version x.table) h reply.holds;
            below = better_is r.best report (λ x. x.version.election ≤ e) l reply.below;
            above = both.0;
            new = λ k. both.1;
          })
      go acknowledged j = record { holds = h; below = l; above = le_refl _; new = λ k. let z : ◌≡◌ {A = ℕ} 0 1 = cc in absurd (omega arith) }
      go refused j = record { holds = h; below = l; above = le_refl _; new = λ k. let z : ◌≡◌ {A = ℕ} 0 1 = cc in absurd (omega arith) }

  phase_after : (u : Purpose) → r.purpose ≡ u → PhaseOk n log e b ro.at copy r c u → PhaseOk n log e b ro.at copy after c u
  unfolding counted
  phase_after recovery_read i h =
      let x = best_after i h.3 h.4 in
      (h.0, h.1, h.2, x.holds, x.below, reported_marks (λ v. v ≼ r.best.version) (λ v. v ≼ after.best.version) (λ v k. le_trans k x.above) x.new (ap Claims.writing i) h.5)
  phase_after recovery_write i h = (h.0, h.1, h.2, h.3, accepted_marks (ap Claims.writing i) h.4)
  phase_after check i h = (h.0, h.1, h.2, h.3, h.4, reported_marks (λ v. Unit {0}) (λ v. Unit {0}) (λ v k. k) (λ k. tt) (ap Claims.writing i) h.5)
  phase_after own_write i h = (h.0, h.1, h.2, h.3, h.4, h.5, h.6, h.7, accepted_marks (ap Claims.writing i) h.8)

  pub counted_ok : RoundOk n log p e b copy after c
  unfolding counted
  counted_ok =
      record {
        call = ro.call;
        election = ro.election;
        marks = marked_length r.marks q mark ∙ ro.marks;
        at = ro.at;
        line = ro.line;
        opened = ro.opened;
        after = ro.after;
        phase = phase_after r.purpose refl ro.phase;
      }

-- ---- a round that is open

-- at a server with an open round on bucket b: it leads, and the call is open too
pub record OpenAt (n buckets : ℕ) (log : Log) (p : ℕ) (s : Server) (b : ℕ) (r : Round) : Type 0 where
  pub leads : Leads n buckets log p s
  pub all : (k : ℕ) → Bucket n log p s k
  pub inside : b < buckets
  pub call : Call
  pub here : call_at s.volatile b ≡ some call
  pub round : RoundOk n log p s.stored.number b (copy_at s.stored b) r call

call_at_lem : (n : ℕ) (log : Log) (p e b : ℕ) (copy : Copy) (o : Option Round) (k : Option Call) (r : Round) → o ≡ some r → BucketOk n log p e b copy o k
    → (c : Call) × (k ≡ some c) × RoundOk n log p e b copy r c
call_at_lem n log p e b copy none none r i h = let z : ◌≡◌ {A = ℕ} 0 1 = cc in absurd (omega arith)
call_at_lem n log p e b copy none (some c) r i h = absurd h
call_at_lem n log p e b copy (some x) none r i h = absurd h
call_at_lem n log p e b copy (some x) (some c) r i h = let j : x ≡ r = cc in (c, refl, rw j at h)

round_inside : (l : List (Option Round)) (b : ℕ) (r : Round) → get_or l b none ≡ some r → b < length l
round_inside l b r e = elim (dec_lt b (length l)) [
  | yes h ↦ h
  | no h ↦ let f : get_or l b none ≡ none = get_or-eq_default l none (omega arith) in let z : ◌≡◌ {A = ℕ} 0 1 = cc in absurd (omega arith)
]

module _ {n buckets : ℕ} {log : Log} {p : ℕ} {s : Server} (agrees : ServerOk n buckets log p s) (b : ℕ) (r : Round) (has : round_at s.volatile b ≡ some r) where
  leads_there : s.volatile.role ≡ leading
  leads_there = go s.volatile.role refl agrees.role
    where
      not_idle : round_at s.volatile b ≡ none → ⊥
      not_idle e = let z : ◌≡◌ {A = ℕ} 0 1 = cc in omega arith

      go : (t : Role) → s.volatile.role ≡ t → RoleOk n log p s.stored s.volatile t → s.volatile.role ≡ leading
      go follower e h = absurd (not_idle (h b).0)
      go candidate e h = absurd (not_idle (h.0 b).0)
      go leading e h = e

  pub open_at : OpenAt n buckets log p s b r
  open_at =
      let l = leader_of agrees leads_there in
      let k = call_at_lem n log p s.stored.number b (copy_at s.stored b) (round_at s.volatile b) (call_at s.volatile b) r has (l.1 b) in
      record {
        leads = l.0;
        all = l.1;
        inside = rw agrees.shape.rounds at (round_inside s.volatile.rounds b r has);
        call = k.0;
        here = k.1;
        round = k.2;
      }

-- the server with the round as the reply left it
module _ {n buckets : ℕ} {log : Log} {p : ℕ} {s : Server} {b : ℕ} {r : Round} (h : OpenAt n buckets log p s b r) (x : Round) where
  with_round_ready : Ready n buckets log p b h.call (with_round s b x)
  with_round_ready =
      let l = h.leads in
      record {
        leads =
            record {
              shape = record { copies = l.shape.copies; votes = l.shape.votes; rounds = simp length-set l.shape.rounds; calls = l.shape.calls };
              stored = l.stored;
              numbered = l.numbered;
              role = l.role;
              won = l.won;
              vote = l.vote;
              positive = l.positive;
              newest = l.newest;
            };
        elsewhere = λ j d. rw (get_or-set_other s.volatile.rounds b j (some x) none d) (h.all j);
        inside = h.inside;
        here = h.here;
        call = h.round.call;
      }

  with_round_at : round_at (with_round s b x).volatile b ≡ some x
  with_round_at = get_or-set_same s.volatile.rounds b (some x) none (rw h.leads.shape.rounds h.inside)

-- ---- a reply

module _ (n buckets now taken p : ℕ) {log : Log} (ok : LogOk n now taken log) {s : Server} (agrees : ServerOk n buckets log p s) where
  counting_kept : {b : ℕ} {r : Round} (h : OpenAt n buckets log p s b r) (x : Round) → RoundOk n log p s.stored.number b (copy_at s.stored b) x h.call
      → Kept n buckets now taken p log (counting n p b x s)
  unfolding counting
  counting_kept {b} {r} h x ro = go (closes n x) refl
    where
      failing : (t : Bool) → Kept n buckets now taken p log (elim t as (λ _. Reaction) [ true ↦ cease s | false ↦ no_reaction (with_round s b x) ])
      failing true = cease_kept n buckets now taken p log ok s (as_unsettled agrees)
      failing false = unmoved ok (round_agrees (with_round_ready h x) x (with_round_at h x) ro) [] (λ m i. none_in i)

      go : (t : Bool) → closes n x ≡ t
          → Kept n buckets now taken p log
          (elim t as (λ _. Reaction) [
            | true ↦ closed n p b x (with_round s b x)
            | false ↦ elim (fails n x) as (λ _. Reaction) [ true ↦ cease s | false ↦ no_reaction (with_round s b x) ]
          ])
      go true shut = closed_kept n buckets now taken p b ok (with_round_ready h x) x ro shut
      go false e = failing (fails n x)

  module _ (m : Message) (mark : Mark) (report : Copy) (reply : ReplyOk log p m.sender m.bucket m.election m.round mark report) where
    matched : (r : Round) → round_at s.volatile m.bucket ≡ some r → m.election ≡ r.election → m.round ≡ r.number
        → Kept n buckets now taken p log (counting n p m.bucket (counted m.sender mark report r) s)
    matched r has i j =
        let o = open_at agrees m.bucket r has in
        let e : m.election ≡ s.stored.number = i ∙ o.round.election in
        let y : ReplyOk log p m.sender m.bucket s.stored.number r.number mark report = rw (e, j) at reply in
        counting_kept o (counted m.sender mark report r) (counted_ok o.round y)

    still : Kept n buckets now taken p log (no_reaction s)
    still = unmoved ok agrees [] (λ x i. none_in i)

    pub reply_kept : Kept n buckets now taken p log (on_reply n p m mark report s)
    unfolding on_reply
    reply_kept = go (round_at s.volatile m.bucket) refl
      where
        round : (r : Round) → round_at s.volatile m.bucket ≡ some r → m.election ≡ r.election → (t : Bool) → eqb m.round r.number ≡ t
            → Kept n buckets now taken p log (elim t as (λ _. Reaction) [ false ↦ no_reaction s | true ↦ counting n p m.bucket (counted m.sender mark report r) s ])
        round r has i true e = matched r has i (eqb-true _ _ e)
        round r has i false e = still

        election : (r : Round) → round_at s.volatile m.bucket ≡ some r → (t : Bool) → eqb m.election r.election ≡ t
            → Kept n buckets now taken p log
            (elim t as (λ _. Reaction) [
              | false ↦ no_reaction s
              | true ↦ elim (eqb m.round r.number) as (λ _. Reaction) [ false ↦ no_reaction s | true ↦ counting n p m.bucket (counted m.sender mark report r) s ]
            ])
        election r has true e = round r has (eqb-true _ _ e) (eqb m.round r.number) refl
        election r has false e = still

        go : (o : Option Round) → round_at s.volatile m.bucket ≡ o
            → Kept n buckets now taken p log
            (elim o as (λ _. Reaction) [
              | none ↦ no_reaction s
              | some r ↦ elim (eqb m.election r.election) as (λ _. Reaction) [
                | false ↦ no_reaction s
                | true ↦ elim (eqb m.round r.number) as (λ _. Reaction) [ false ↦ no_reaction s | true ↦ counting n p m.bucket (counted m.sender mark report r) s ]
              ]
            ])
        go none e = still
        go (some r) e = election r e (eqb m.election r.election) refl

-- what each kind of reply says

true_not_false : true ≡ false → ⊥
true_not_false e = let z : ◌≡◌ {A = ℕ} 0 1 = cc in omega arith

module _ {n now taken buckets : ℕ} {log : Log} (ok : LogOk n now taken log) (m : Message) (good : MessageOk buckets log m) where
  -- the round that an acknowledgement names is the one it answers
  named : {w : Bool} {x : Version} (y : RoundOf log m.receiver m.election m.round m.bucket w x) (o : Opened) → o ∈ log.rounds → o.election ≡ m.election → o.number ≡ m.round → o ≡ y.opened
  named y o i e k = ok.rounds.unique o y.opened i y.had (e ∙ sym y.election) (k ∙ sym y.number)

  pub refused_reply : ReplyOk log m.receiver m.sender m.bucket m.election m.round refused fresh_copy
  refused_reply =
      record {
        accepted = λ i. let z : ◌≡◌ {A = ℕ} 0 1 = cc in absurd (omega arith);
        reported = λ i. let z : ◌≡◌ {A = ℕ} 0 1 = cc in absurd (omega arith);
        holds = Claims.Holds.first refl refl;
        below = omega arith;
      }

  pub write_reply : m.body ≡ ack_write → ReplyOk log m.receiver m.sender m.bucket m.election m.round acknowledged fresh_copy
  write_reply body =
      let claim : BodyOk buckets log m ack_write = rw body at good.claim in
      let y = claim.1 in
      record {
        accepted = λ i o j e k w. rw (ap (λ z. z.at) (named y o j e k) ∙ y.at) claim.2;
        reported = λ i o j e k w. absurd (true_not_false (sym y.kind ∙ ap (λ z. Claims.writing z.purpose) (sym (named y o j e k)) ∙ w));
        holds = Claims.Holds.first refl refl;
        below = omega arith;
      }

  pub read_reply : (c : Copy) → m.body ≡ ack_read c → ReplyOk log m.receiver m.sender m.bucket m.election m.round acknowledged c
  read_reply c body =
      let claim : BodyOk buckets log m (ack_read c) = rw body at good.claim in
      let y = claim.1 in
      record {
        accepted = λ i o j e k w. absurd (true_not_false (sym w ∙ ap (λ z. Claims.writing z.purpose) (named y o j e k) ∙ y.kind));
        reported = λ i o j e k w. claim.2;
        holds = claim.3;
        below = ok.rounds.bounded _ claim.2;
      }
