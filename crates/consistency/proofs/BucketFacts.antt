-- The facts that the one order rests on hold of the history of every bucket.
use mathlib.Core.Path.{◌≡◌, refl, sym, ◌∙◌, ap}
use mathlib.Core.Logic.{◌⊎◌, inl, inr}
use mathlib.Core.List.Memᴰ
use mathlib.Core.List.{List}
use mathlib.Core.Option.{Option, some}
use Prim.Native.Nat.{ℕ, ◌≤◌, ◌<◌}
use native.Mathlib.Omega.{arith}
use Rattle.entries.specs.Entries.{Entry}
use Rattle.model.specs.Calls.{Result, done, answers, writes, effect}
use Rattle.model.specs.Cluster.{Version}
use Rattle.history.specs.Members.{◌∈◌}
use Rattle.history.specs.Version.{◌≼◌}
use Rattle.history.specs.History.{Quorums, Write, Accept, Report, Check, End, answered, Call, History, Holds, Chosen, Makes, Origin, Succeeds, ByWrite, ByCheck, Facts}
use Rattle.history.proofs.MemberLaws.{clash}
use Rattle.consistency.proofs.Majorities.{quorums}
use Rattle.consistency.proofs.Log.{Log}
use Rattle.consistency.proofs.Log
use Rattle.consistency.proofs.Claims
use Rattle.consistency.proofs.Invariant.{LogOk}
use Rattle.consistency.proofs.Invariant
use Rattle.consistency.proofs.OneTable.{one_table}
use Rattle.consistency.proofs.OneBucket.{left, said, plain, write_of, accept_of, report_of, win_of, check_of, end_by, end_of, call_of, history_of}
use Rattle.consistency.proofs.BucketMembers.{map_each, part_has, part_each, part_two, end_says, entry_of}

-- ---- what is claimed of the log, claimed of the history of bucket b

module _ (log : Log) (b : ℕ) where
  -- what holds of the log's entries of bucket b holds of the history's
  each_write : (P : Write plain → Type 0) → ((w : Log.Write) → w ∈ log.writes → w.bucket ≡ b → P (write_of w))
      → (w : Write plain) → w ∈ (history_of log b).writes → P w
  each_write = part_each (λ w. w.bucket) write_of b log.writes

  each_check : (P : Check → Type 0) → ((c : Log.Check) → c ∈ log.checks → c.bucket ≡ b → P (check_of c))
      → (c : Check) → c ∈ (history_of log b).checks → P c
  each_check = part_each (λ c. c.bucket) check_of b log.checks

  pub each_call : (P : Call plain → Type 0) → ((x : Log.Begun) → x ∈ log.begins → x.bucket ≡ b → P (call_of log.ends x))
      → (c : Call plain) → c ∈ (history_of log b).calls → P c
  each_call = part_each (λ x. x.bucket) (call_of log.ends) b log.begins

  -- and the history has them all
  has_write : {w : Log.Write} → w ∈ log.writes → w.bucket ≡ b → write_of w ∈ (history_of log b).writes
  has_write = part_has (λ w. w.bucket) write_of b log.writes

  pub has_call : {x : Log.Begun} → x ∈ log.begins → x.bucket ≡ b → call_of log.ends x ∈ (history_of log b).calls
  has_call = part_has (λ x. x.bucket) (call_of log.ends) b log.begins

  holds_part : {x : Version} {t : List Entry} {k : ℕ} → k ≡ b → Claims.Holds log k x t → Holds (history_of log b) x t
  holds_part j (Claims.Holds.first e f) = Holds.first e f
  holds_part j (Claims.Holds.later w m i e f) = Holds.later (write_of w) (has_write m (i ∙ j)) e f

  holds_whole : {x : Version} {t : List Entry} {k : ℕ} → k ≡ b → Holds (history_of log b) x t → Claims.Holds log k x t
  holds_whole j (Holds.first e f) = Claims.Holds.first e f
  holds_whole {x} {t} {k} j (Holds.later w m e f) =
      each_write (λ y. y.at ≡ x → y.table ≡ t → Claims.Holds log k x t) (λ y l i. Claims.Holds.later y l (i ∙ sym j)) w m e f

  chosen_part : {n : ℕ} {x : Version} {k : ℕ} → k ≡ b → Claims.Chosen n log k x
      → Chosen (quorums n) (history_of log b) x
  chosen_part j (Claims.Chosen.first e) = Chosen.first e
  chosen_part j (Claims.Chosen.quorum l q f) = Chosen.quorum l q (λ p i. part_has (λ a. a.bucket) accept_of b log.accepts (f p i) j)

  makes_part : {w : Log.Write} {t : List Entry} {o : Option ℕ} → w.bucket ≡ b → Invariant.Makes log w t o → Makes (history_of log b) t w.table o
  unfolding left
  makes_part i (Invariant.Makes.kept e) = Makes.kept e
  makes_part {t = t} i (Invariant.Makes.changed x m j l e) =
      Makes.changed (call_of log.ends x) (has_call m (j ∙ i)) (sym (ap (λ z. left z t) e))

-- w is the own write of call i: the call's effect on the table that w was made from
record Own (log : Log) (w : Log.Write) (i : ℕ) : Type 0 where
  call : Log.Begun
  begun : call ∈ log.begins
  number : call.number ≡ i
  bucket : call.bucket ≡ w.bucket
  before : call.line ≤ w.line
  table : List Entry
  holds : Claims.Holds log w.bucket w.parent table
  makes : effect call.words table ≡ writes w.table

own_by : {log : Log} {w : Log.Write} {t : List Entry} {o : Option ℕ} {i : ℕ} → Claims.Holds log w.bucket w.parent t
    → Invariant.Makes log w t o → o ≡ some i → Own log w i
own_by k (Invariant.Makes.kept e) f = clash cc
own_by {t = t} k (Invariant.Makes.changed x m j l e) f =
    record { call = x; begun = m; number = cc; bucket = j; before = l; table = t; holds = k; makes = e }

-- ---- the facts

module _ (n now taken : ℕ) {log : Log} (ok : LogOk n now taken log) (b : ℕ) where
  abbrev Q : Quorums
  Q = quorums n

  abbrev h : History plain
  h = history_of log b

  -- ---- writes

  origin_of : (w : Log.Write) → w ∈ log.writes → w.bucket ≡ b → Origin h (write_of w)
  origin_of w m i =
      let o = ok.writes.origin w m in
      record {
        table = o.table;
        holds = holds_part log b i o.holds;
        makes = makes_part log b i o.makes;
        older = each_write log b _ (λ x k j. o.older x k (j ∙ sym i));
      }

  succeeds_part : {w : Log.Write} → w.bucket ≡ b → Invariant.Succeeds n log w → Succeeds Q h (write_of w)
  succeeds_part i (Invariant.Succeeds.recovers c e l q k f) =
      Succeeds.recovers c e l q (λ p j. let (r, m, a) = f p j in (r, part_has (λ x. x.bucket) report_of b log.reports m i, a))
  succeeds_part i (Invariant.Succeeds.follows e c a) = Succeeds.follows e c a

  promised : (a : Accept) → a ∈ h.accepts → (r : Report) → r ∈ h.reports → a.server ≡ r.server
      → a.at.election < r.election → a.at ≼ r.at
  promised = part_each (λ a. a.bucket) accept_of b log.accepts _ (λ a m i.
      part_each (λ r. r.bucket) report_of b log.reports _ (λ r k j e. ok.rounds.promised a r m k e (i ∙ sym j)))

  -- ---- checks: each is a checking round of the log

  module _ (c : Log.Check) (m : c ∈ log.checks) (i : c.bucket ≡ b) where
    newest : (w : Log.Write) → w ∈ log.writes → w.bucket ≡ b → w.at.election ≡ c.at.election
        → w.line < c.line → w.at ≼ c.at
    newest w k j e l =
        let (_, o, n, p, d, a, s, _) = ok.calls.confirmed c m in
        rw a at (ok.rounds.newest o n p w k (j ∙ sym (d ∙ i)) (e ∙ sym (ap (λ v. v.election) a)) (omega arith))

    written : (w : Log.Write) → w ∈ log.writes → w.bucket ≡ b → w.at ≡ c.at → w.line ≤ c.line
    written w k j e =
        let (_, o, n, p, d, a, s, _) = ok.calls.confirmed c m in
        omega (arith, ok.rounds.written o n p w k (j ∙ sym (d ∙ i)) (e ∙ sym a))

    unseated : (x : Log.Win) → x ∈ log.wins → c.at.election < x.election → x.line < c.line
        → (q : ℕ) → q ∈ c.members → q ∈ x.members → ⊥
    unseated x k f l q u v =
        let (_, o, n, p, d, a, s, reports) = ok.calls.confirmed c m in
        let (r, t) = reports q u in
        let under : o.election ≡ c.at.election = sym (ok.rounds.under o n p) ∙ ap (λ y. y.election) a in
        ok.rounds.unseated _ o x t n k refl refl (omega arith) (omega arith) v

  -- ---- calls

  -- a write for a call is the call's own
  own_of : {w : Log.Write} {i : ℕ} → w ∈ log.writes → w.call ≡ some i → Own log w i
  own_of m e = let o = ok.writes.origin _ m in own_by o.holds o.makes e

  -- a call's own write is made in no later line than its end
  in_time : (x : Log.Begun) (line : ℕ) → end_of log.ends x.number ≡ End.unknown line
      → (w : Log.Write) → w ∈ log.writes → w.bucket ≡ b → w.call ≡ some x.number → w.line ≤ line
  in_time x line e w m j f =
      let (y, k, a, s) = entry_of log.ends x.number e (λ z. clash cc) in
      omega (arith, end_says _ _ s, ok.calls.written_before y k w m (rw a f))

  -- a call that ended as `notdone` has no own write
  undone_by : {x : Log.Ended} {line : ℕ} → end_by x.line x.result ≡ End.notdone line → Invariant.EndOk n log x
      → Invariant.Unwritten log x.number
  unfolding end_by
  undone_by s (Invariant.EndOk.undone r u) = u
  undone_by s (Invariant.EndOk.unsure r) = clash cc
  undone_by s (Invariant.EndOk.by_write r w m c k) = clash cc
  undone_by s (Invariant.EndOk.by_check c m i l k y j e f o p u) = u

  module _ (x : Log.Begun) (m : x ∈ log.begins) (i : x.bucket ≡ b) where
    by_write : {w : Log.Write} {line : ℕ} → w ∈ log.writes → w.call ≡ some x.number → Claims.Chosen n log w.bucket w.at → w.line ≤ line
        → ByWrite Q h (call_of log.ends x) line done
    unfolding said
    by_write {w} k e c l =
        let o = own_of k e in
        let same : o.call ≡ x = ok.calls.begun_once _ x o.begun m o.number in
        let here : w.bucket ≡ b = sym o.bucket ∙ ap (λ z. z.bucket) same ∙ i in
        record {
          write = write_of w;
          made = has_write log b k here;
          own = e;
          chosen = chosen_part log b here c;
          before = l;
          right = λ t held. let one : t ≡ o.table = one_table ok (holds_whole log b here held) o.holds in cc o.makes;
        }

    by_check : {c : Log.Check} {line : ℕ} {r : Result} → c ∈ log.checks → c.call ≡ x.number → c.line ≤ line → Claims.Chosen n log c.bucket c.at
        → c.bucket ≡ b → x.line ≤ c.line
        → ((t : List Entry) → Claims.Holds log c.bucket c.at t → effect x.words t ≡ answers r)
        → Invariant.Unwritten log x.number → ByCheck Q h (call_of log.ends x) line r
    unfolding said left
    by_check {c} k e l v here a f u =
        record {
          check = check_of c;
          made = part_has (λ d. d.bucket) check_of b log.checks k here;
          own = e;
          confirmed = (ok.calls.confirmed c k).0;
          chosen = chosen_part log b here v;
          after = a;
          before = l;
          right = λ t held. ap said (f t (holds_whole log b here held));
          unchanged = λ t held. ap (λ z. left z t) (f t (holds_whole log b here held));
          unwritten = each_write log b _ (λ w n j. u w n);
        }

    -- any other end is an answer, by a write or by a check
    justified_by : {y : Log.Ended} {line : ℕ} {r : Result} → y ∈ log.ends → y.number ≡ x.number → end_by y.line y.result ≡ answered line r
        → Invariant.EndOk n log y → ByWrite Q h (call_of log.ends x) line r ⊎ ByCheck Q h (call_of log.ends x) line r
    unfolding end_by
    justified_by k a s (Invariant.EndOk.undone e u) = clash cc
    justified_by k a s (Invariant.EndOk.unsure e) = clash cc
    justified_by {y} {r = r} k a s (Invariant.EndOk.by_write e w l c v) =
        let (p, q) = end_says y.line y.result s in
        let d : r ≡ done = cc in
        inl (rw d (by_write l (c ∙ ap some a) v (omega (arith, ok.calls.written_before y k w l c))))
    justified_by {y} k a s (Invariant.EndOk.by_check c l d o v z g p j t f u) =
        let (w, q) = end_says y.line y.result s in
        let same : z ≡ x = ok.calls.begun_once z x g m (p ∙ a) in
        inr (by_check l (d ∙ a) (omega arith) v (sym j ∙ ap (λ y. y.bucket) same ∙ i) (omega (arith, ap (λ y. y.line) same))
        (λ t held. cc (f t held)) (rw a at u))

  pub facts_of : Facts (quorums n) (history_of log b)
  facts_of =
      record {
        unique = part_two (λ w. w.bucket) write_of b log.writes _ (λ w x m k i j e.
            ap write_of (ok.writes.unique w x m k (i ∙ sym j) e));
        positive = each_write log b _ (λ w m i. ok.writes.positive w m);
        origin = each_write log b _ origin_of;
        succeeds = each_write log b _ (λ w m i. succeeds_part i (ok.writes.succeeds w m));
        won = each_write log b _ (λ w m i. let (x, k, e, l) = ok.writes.won w m in (win_of x, Memᴰ.map win_of k, e, l));
        quorate = map_each win_of log.wins _ ok.votes.quorate;
        accepted = part_each (λ a. a.bucket) accept_of b log.accepts _ (λ a m i.
            let (w, k, j, e) = ok.rounds.accepted a m in (write_of w, has_write log b k (j ∙ i), e));
        promised = λ q e v r m k. promised _ m _ k refl;
        newest = each_check log b _ (λ c m i. each_write log b _ (newest c m i));
        written = each_check log b _ (λ c m i. each_write log b _ (written c m i));
        unseated = each_check log b _ (λ c m i. map_each win_of log.wins _ (unseated c m i));
        numbered = part_two (λ x. x.bucket) (call_of log.ends) b log.begins _ (λ x y m k i j e.
            ap (call_of log.ends) (ok.calls.begun_once x y m k e));
        in_turn = part_two (λ x. x.bucket) (call_of log.ends) b log.begins _ (λ x y m k i j. ok.calls.in_turn x y m k);
        owner = each_write log b _ (λ w m j i e.
            let o = own_of m e in (call_of log.ends o.call, has_call log b o.begun (o.bucket ∙ j), o.number, o.before));
        once = part_two (λ w. w.bucket) write_of b log.writes _ (λ w x m k i j a e f.
            ap write_of (ok.writes.once w x m k a e f));
        in_time = each_call log b _ (λ x m j line e. each_write log b _ (in_time x line e));
        undone = each_call log b _ (λ x m j line e. each_write log b _ (λ w k i f.
            let (y, l, a, s) = entry_of log.ends x.number e (λ z. clash cc) in undone_by s (ok.calls.justified y l) w k (rw a f)));
        justified = each_call log b _ (λ x m i line r e.
            let (y, k, a, s) = entry_of log.ends x.number e (λ z. clash cc) in justified_by x m i k a s (ok.calls.justified y k));
      }
