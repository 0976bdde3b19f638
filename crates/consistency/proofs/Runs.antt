-- Every list of lines leaves a log whose calls and answers are those that are read off the script.
use mathlib.Core.Path.{◌≡◌, refl, sym, ◌∙◌, ap, subst, subst⁻¹}
use mathlib.Core.List.Memᴰ
use mathlib.Core.List.{List, [], ◌∷◌, ◌++◌, map, append-nil}
use mathlib.Core.Bool.{true, false}
use mathlib.Core.Option.{Option, none, some}
use Prim.Native.Nat.{ℕ, zero, suc, ◌+◌, ◌≤◌, ◌<◌}
use native.Mathlib.Omega.{arith}
use native.Mathlib.Numerals.{add-one}
use lib.ListN.{length, get_or, take, replicate, length-replicate}
use Rattle.model.specs.Measures.{max_election}
use Rattle.model.specs.Calls.{Answer}
use Rattle.model.specs.Cluster.{fresh_copy, fresh_server, fresh_cluster, Cluster, Round, Call, Message}
use Rattle.model.specs.Lines.{Line, cluster, elect, call, deliver, copy, lose, timeout, stop, cut, start, State, initial_state, Outcome, printed, LineResult, Work, server_at, message_at, drop_at, stopped_at, lost_message, delivered_to, delivery, work, first_of, conditions, conditions_up_to}
use Rattle.model.specs.Leader.{handle}
use Rattle.model.specs.Parse.{parse}
use Rattle.model.specs.Run.{step, state_after, state_after_up_to, outcomes, outcomes_up_to}
use Rattle.history.specs.Members.{◌∈◌}
use Rattle.history.proofs.MemberLaws.{none_in, each_append}
use Rattle.limits.proofs.Counting.{none_applies}
use Rattle.limits.proofs.Refusals.{ComesOut, refused_by_lem, founded, took, comes_out}
use Rattle.limits.specs.Stands.{Measured}
use Rattle.limits.proofs.Always.{line_keeps_measures}
use Rattle.consistency.specs.Statement.{Begin, End, meaning, begins_from, ends_from, begins, ends, Distinct}
use Rattle.consistency.proofs.Log.{Begun, Ended, Log, empty_log, Grows, ◌⊆◌}
use Rattle.consistency.proofs.Claims.{Holds}
use Rattle.consistency.proofs.Claims
use Rattle.consistency.proofs.Invariant.{LogOk, ServerOk, AnyServerOk, any_server}
use Rattle.consistency.proofs.Growth.{grows_refl, grows_trans}
use Rattle.consistency.proofs.Acts.{ends_of}
use Rattle.consistency.proofs.Extend.{later_line}
use Rattle.consistency.proofs.Good.{Good}
use Rattle.consistency.proofs.Once.{numbers_of, distinct_join, distinct_regroup}
use Rattle.consistency.proofs.Steps.{begun_by, LineGood, line_good}

-- ---- the fresh cluster

empty_log_ok : (n now : ℕ) → LogOk n now 0 empty_log
empty_log_ok n now =
    record {
      votes = record { one_vote = λ x y m. none_in m; quorate = λ x m. none_in m; voted = λ x m. none_in m };
      writes =
          record {
            unique = λ w x m. none_in m;
            positive = λ w m. none_in m;
            origin = λ w m. none_in m;
            succeeds = λ w m. none_in m;
            won = λ w m. none_in m;
            once = λ w x m. none_in m;
          };
      rounds =
          record {
            won = λ o m. none_in m;
            unique = λ o p m. none_in m;
            reported = λ r m. none_in m;
            bounded = λ r m. none_in m;
            accepted = λ a m. none_in m;
            promised = λ a r m. none_in m;
            newest = λ o m. none_in m;
            written = λ o m. none_in m;
            looks_at = λ o m. none_in m;
            under = λ o m. none_in m;
            unseated = λ r o x m. none_in m;
          };
      calls =
          record {
            begun_once = λ x y m. none_in m;
            in_turn = λ x y m. none_in m;
            ended_once = λ x y m. none_in m;
            ended_begun = λ x m. none_in m;
            written_before = λ x m. none_in m;
            justified = λ x m. none_in m;
            confirmed = λ c m. none_in m;
          };
      time =
          record {
            wins = λ x m. none_in m;
            writes = λ x m. none_in m;
            rounds = λ x m. none_in m;
            begins = λ x m. none_in m;
            ends = λ x m. none_in m;
            numbers = λ x m. none_in m;
          };
    }

all_alike : {A : Type 0} (a : A) (n k : ℕ) → get_or (replicate n a) k a ≡ a
all_alike a zero k = refl
all_alike a (suc n) zero = refl
all_alike a (suc n) (suc k) = all_alike a n k

fresh_server_ok : (n b p : ℕ) → ServerOk n b empty_log p (fresh_server n b)
unfolding fresh_server
fresh_server_ok n b p =
    record {
      shape = record { copies = length-replicate b _; votes = length-replicate n _; rounds = length-replicate b _; calls = length-replicate b _ };
      stored =
          record {
            number = omega arith;
            votes = λ x m. none_in m;
            voted = λ l. absurd (omega arith);
            wins = λ x m. none_in m;
            copies = λ k. rw (all_alike fresh_copy b k) (Claims.Holds.first refl refl, omega arith);
            accepts = λ x m. none_in m;
            reports = λ x m. none_in m;
          };
      role = λ k. (all_alike {A = Option Round} none b k, all_alike {A = Option Call} none b k);
    }

at_replicate : {A : Type 0} (P : A → Type 0) (a d : A) (n k : ℕ) → k < n → P a → P (get_or (replicate n a) k d)
at_replicate P a d zero k h x = absurd (omega arith)
at_replicate P a d (suc n) zero h x = x
at_replicate P a d (suc n) (suc k) h x = at_replicate P a d n k (omega arith) x

fresh_good : (n b now : ℕ) → Good now (fresh_cluster n b) empty_log
unfolding fresh_cluster
fresh_good n b now =
    record {
      facts = empty_log_ok _ now;
      servers = rw (length-replicate n (fresh_server n b)) (λ p h. at_replicate (AnyServerOk n b empty_log p) (fresh_server n b) _ n p h (any_server (fresh_server_ok n b p)));
      messages = λ m i. none_in i;
    }

-- ---- what is read off the script is what the log has

abbrev pub begin_of : Begun → Begin
begin_of y = record { number = y.number; words = y.words; bucket = y.bucket; line = y.line }

abbrev pub end_of : Ended → End
end_of y = record { number = y.number; result = y.result; line = y.line }

abbrev pub end_numbers : List End → List ℕ
end_numbers es = map (λ y. y.number) es

-- and no call's end is read twice
pub record Match (bs : List Begin) (es : List End) (log : Log) : Type 0 where
  pub begun : bs ⊆ map begin_of log.begins
  pub begins : map begin_of log.begins ⊆ bs
  pub ended : es ⊆ map end_of log.ends
  pub ends : map end_of log.ends ⊆ es
  pub once : Distinct (end_numbers es)

regroup_to : {A : Type 0} (a r x : List A) → ((a ++ r) ++ x) ⊆ (r ++ (a ++ x))
regroup_to a r x =
    each_append (a ++ r)
    (each_append a (λ y m. Memᴰ.append_right r (Memᴰ.append_left x m)) (λ y m. Memᴰ.append_left (a ++ x) m))
    (λ y m. Memᴰ.append_right r (Memᴰ.append_right a m))

regroup_from : {A : Type 0} (a r x : List A) → (r ++ (a ++ x)) ⊆ ((a ++ r) ++ x)
regroup_from a r x =
    each_append r (λ y m. Memᴰ.append_left x (Memᴰ.append_right a m))
    (each_append a (λ y m. Memᴰ.append_left x (Memᴰ.append_left r m)) (λ y m. Memᴰ.append_right (a ++ r) m))

map_append : {A B : Type 0} (f : A → B) (k l : List A) → map f (k ++ l) ≡ map f k ++ map f l
map_append f [] l = refl
map_append f (a ∷ k) l = ap (λ r. f a ∷ r) (map_append f k l)

once_regroup : (d s y : List End) → Distinct (end_numbers (s ++ (d ++ y))) → Distinct (end_numbers ((d ++ s) ++ y))
once_regroup d s y h =
    let number : End → ℕ = λ z. z.number in
    let e : end_numbers (s ++ (d ++ y)) ≡ end_numbers s ++ (end_numbers d ++ end_numbers y) = map_append number s (d ++ y) ∙ ap (λ r. end_numbers s ++ r) (map_append number d y) in
    let f : end_numbers ((d ++ s) ++ y) ≡ (end_numbers d ++ end_numbers s) ++ end_numbers y = map_append number (d ++ s) y ∙ ap (λ r. r ++ end_numbers y) (map_append number d s) in
    subst⁻¹ Distinct f (distinct_regroup (end_numbers d) (end_numbers s) (end_numbers y) (subst Distinct e h))

match_regroup : (a r x : List Begin) (d s y : List End) {log : Log} → Match (r ++ (a ++ x)) (s ++ (d ++ y)) log → Match ((a ++ r) ++ x) ((d ++ s) ++ y) log
match_regroup a r x d s y h =
    record {
      begun = λ z m. h.begun z (regroup_to a r x z m);
      begins = λ z m. regroup_from a r x z (h.begins z m);
      ended = λ z m. h.ended z (regroup_to d s y z m);
      ends = λ z m. regroup_from d s y z (h.ends z m);
      once = once_regroup d s y h.once;
    }

-- ---- one line

abbrev end_in : ℕ → Answer → End
end_in now a = record { number = a.call; result = a.result; line = now }

ends_read : (now : ℕ) (out : List Answer) → map end_of (ends_of now out) ≡ map (end_in now) out
ends_read now [] = refl
ends_read now (a ∷ out) = ap (λ r. end_in now a ∷ r) (ends_read now out)

append_mono : {A : Type 0} (k : List A) {l m : List A} → l ⊆ m → (k ++ l) ⊆ (k ++ m)
append_mono k f = each_append k (λ x i. Memᴰ.append_left _ i) (λ x i. Memᴰ.append_right k (f x i))

mapped : {A B : Type 0} (f : A → B) (k l : List A) → k ⊆ l → map f k ⊆ map f l
mapped f k l h x m = let (a, i, e) = Memᴰ.of_map f k m in subst (λ y. y ∈ map f l) e (Memᴰ.map f (h a i))

numbers_read : (now : ℕ) (out : List Answer) → end_numbers (map (end_in now) out) ≡ numbers_of out
numbers_read now [] = refl
numbers_read now (a ∷ out) = ap (λ r. a.call ∷ r) (numbers_read now out)

-- no call that a line ends had ended before: one end is in this line, the other was in an earlier one
line_once : {now : ℕ} {c : Cluster} {log : Log} {l : Line} (g : LineGood now c log l) → ((x : Ended) → x ∈ log.ends → x.line < now) → {bs : List Begin} {es : List End} → Match bs es log
    → Distinct (end_numbers (map (end_in now) (work c l).answers ++ es))
line_once {now} {c} {log} {l} g earlier {es = es} h =
    let out = (work c l).answers in
    rw (map_append (λ (y : End). y.number) (map (end_in now) out) es, numbers_read now out)
    (distinct_join (numbers_of out) (end_numbers es) g.once h.once
    (λ i m n.
    let (a, j, e) = Memᴰ.of_map (λ (a : Answer). a.call) out m in
    let (y, k, f) = Memᴰ.of_map (λ (y : End). y.number) es n in
    let (z, o, u) = Memᴰ.of_map end_of log.ends (h.ended y k) in
    let new = (g.ends _).1 (Memᴰ.append_left log.ends (Memᴰ.map (λ a. record { number = a.call; result = a.result; line = now }) j)) in
    let old = (g.ends z).1 (Memᴰ.append_right (ends_of now out) o) in
    let same = g.good.facts.calls.ended_once z _ old new (ap (λ x. x.number) u ∙ f ∙ sym e) in
    omega (arith, earlier z o, ap (λ x. x.line) same)))

-- what a line began and printed is read off it
line_matches : {now : ℕ} {c : Cluster} {log : Log} {l : Line} (g : LineGood now c log l) → ((x : Ended) → x ∈ log.ends → x.line < now) → {bs : List Begin} {es : List End} → Match bs es log
    → Match (map begin_of (begun_by now c l) ++ bs) (map (end_in now) (work c l).answers ++ es) g.next
line_matches {now} {c} {log} {l} g earlier h =
    let out = (work c l).answers in
    let e : map begin_of g.next.begins ≡ map begin_of (begun_by now c l) ++ map begin_of log.begins = ap (map begin_of) g.begins ∙ map_append begin_of (begun_by now c l) log.begins in
    let f : map end_of (ends_of now out ++ log.ends) ≡ map (end_in now) out ++ map end_of log.ends =
    map_append end_of (ends_of now out) log.ends ∙ ap (λ r. r ++ map end_of log.ends) (ends_read now out) in
    record {
      begun = rw e (append_mono (map begin_of (begun_by now c l)) h.begun);
      begins = rw e (append_mono (map begin_of (begun_by now c l)) h.begins);
      ended = λ x m. mapped end_of (ends_of now out ++ log.ends) g.next.ends (λ y i. (g.ends y).1 i) x (rw f (append_mono (map (end_in now) out) h.ended x m));
      ends = λ x m. append_mono (map (end_in now) out) h.ends x (rw f at (mapped end_of g.next.ends (ends_of now out ++ log.ends) (λ y i. (g.ends y).0 i) x m));
      once = line_once g earlier h;
    }

-- how many calls there are after a line, and of how many buckets
delivery_keeps : (c : Cluster) (m : Message) (kept : List Message) (copied : ℕ)
    → ((delivery c m kept copied).cluster.calls ≡ c.calls) × ((delivery c m kept copied).cluster.buckets ≡ c.buckets)
unfolding delivery
delivery_keeps c m kept copied =
    elim (stopped_at c m.receiver) as
    (λ t.
    let w = elim t as (λ _. Work) [ true ↦ lost_message c kept copied | false ↦ delivered_to c m kept copied (handle (length c.servers) m.receiver m (server_at c m.receiver)) ] in
    (w.cluster.calls ≡ c.calls) × (w.cluster.buckets ≡ c.buckets))
    [ true ↦ (refl, refl) | false ↦ (refl, refl) ]

-- an accepted line of a cluster that stands is read as what it began
line_read : (now : ℕ) (c : Cluster) (l : List ℕ) (x : Line) (ls : List (List ℕ)) (out : List Answer) (os : List Outcome)
    → parse l ≡ some x → first_of (conditions c x) ≡ none
    → begins_from now c.calls c.buckets (l ∷ ls) (printed out ∷ os)
    ≡ map begin_of (begun_by now c x) ++ begins_from (now + 1) (work c x).cluster.calls (work c x).cluster.buckets ls os
unfolding begins_from begun_by work meaning conditions_up_to first_of
line_read now c l (cluster n b) ls out os e f = let z : ◌≡◌ {A = ℕ} 0 1 = cc in absurd (omega arith)
line_read now c l (elect s) ls out os e f = rw (begins_from, e)
line_read now c l (call s w) ls out os e f = rw (begins_from, e)
line_read now c l (deliver i) ls out os e f =
    let k = delivery_keeps c (message_at c i) (drop_at i c.messages) 0 in rw (begins_from, e, k.0, k.1)
line_read now c l (copy i) ls out os e f = let k = delivery_keeps c (message_at c i) c.messages 1 in rw (begins_from, e, k.0, k.1)
line_read now c l (lose i) ls out os e f = rw (begins_from, e)
line_read now c l (timeout s b) ls out os e f = rw (begins_from, e)
line_read now c l (stop s) ls out os e f = rw (begins_from, e)
line_read now c l (cut i k) ls out os e f = rw (begins_from, e)
line_read now c l (start s) ls out os e f = rw (begins_from, e)

-- ---- every list of lines

-- before the cluster line nothing is logged; after it the cluster agrees with the log
abbrev pub RunOk : ℕ → Option Cluster → ℕ → ℕ → Log → Type 0
RunOk now none count b log = (log ≡ empty_log) × (count ≡ 0)
RunOk now (some c) count b log = Good now c log × (count ≡ c.calls) × (b ≡ c.buckets)

-- a state that was passed, by line `line` at the latest: it agrees with what the final log had then
pub record Passed (line : ℕ) (s : State) (final : Log) : Type 0 where
  pub log : Log
  pub grows : Grows log final
  pub now : ℕ
  pub count : ℕ
  pub buckets : ℕ
  pub early : now ≤ line
  pub agrees : RunOk now s.cluster count buckets log

-- what lines leave, run from a state after `line` lines: a log that has all that `from` had and what was read off, and with which
-- the state they lead to agrees, and every state they pass
pub record Leaves (from : Log) (line : ℕ) (s : State) (ls : List (List ℕ)) (bs : List Begin) (es : List End) : Type 0 where
  pub log : Log
  pub grows : Grows from log
  pub now : ℕ
  pub count : ℕ
  pub buckets : ℕ
  pub measured : Measured (state_after s ls).cluster (state_after s ls).tally
  pub agrees : RunOk now (state_after s ls).cluster count buckets log
  pub same : Match bs es log
  pub passed : (k : ℕ) → Passed (line + k) (state_after s (take k ls)) log

-- the facts hold of a log that has what was read off; `servers` is the size of the cluster, if one stands
pub record Ran (o : Option Cluster) (log : Log) (bs : List Begin) (es : List End) : Type 0 where
  pub servers : ℕ
  pub size : (c : Cluster) → o ≡ some c → servers ≡ length c.servers
  pub now : ℕ
  pub taken : ℕ
  pub facts : LogOk servers now taken log
  pub same : Match bs es log

-- what is shown of the lines that are left, whatever came before
abbrev Goes : List (List ℕ) → Type 0
Goes ls =
    (now count b : ℕ) (s : State) (log : Log) (bs : List Begin) (es : List End)
    → Measured s.cluster s.tally → RunOk now s.cluster count b log → Match bs es log
    → Leaves log now s ls (begins_from (now + 1) count b ls (outcomes s ls) ++ bs) (ends_from (now + 1) (outcomes s ls) ++ es)

ran_at : (now count b : ℕ) (o : Option Cluster) (log : Log) (bs : List Begin) (es : List End) → RunOk now o count b log → Match bs es log → Ran o log bs es
ran_at now count b none log bs es (e, f) same =
    record { servers = 0; size = λ c e. let z : ◌≡◌ {A = ℕ} 0 1 = cc in absurd (omega arith); now = 0; taken = 0; facts = rw e (empty_log_ok 0 0); same = same }
ran_at now count b (some c) log bs es g same =
    record {
      servers = length c.servers;
      size = λ d e. let f : c ≡ d = cc in ap (λ x. length x.servers) f;
      now = now;
      taken = c.calls;
      facts = g.0.facts;
      same = same;
    }

pub ran_of : {from : Log} {line : ℕ} {s : State} {ls : List (List ℕ)} {bs : List Begin} {es : List End} (h : Leaves from line s ls bs es) → Ran (state_after s ls).cluster h.log bs es
ran_of {s = s} {ls} h = ran_at h.now h.count h.buckets (state_after s ls).cluster h.log _ _ h.agrees h.same

-- a line later nothing has changed
later_good : {now : ℕ} {c : Cluster} {log : Log} → Good now c log → Good (now + 1) c log
later_good {now} {c} {log} g = record { facts = rw add-one (later_line g.facts); servers = g.servers; messages = g.messages }

later_run : (now count b : ℕ) (o : Option Cluster) (log : Log) → RunOk now o count b log → RunOk (now + 1) o count b log
later_run now count b none log h = h
later_run now count b (some c) log g = (later_good g.0, g.1, g.2)

leaves_regroup : (a r x : List Begin) (d q y : List End) {from middle : Log} {line : ℕ} {s : State} {ls : List (List ℕ)} → Grows from middle
    → Leaves middle line s ls (r ++ (a ++ x)) (q ++ (d ++ y)) → Leaves from line s ls ((a ++ r) ++ x) ((d ++ q) ++ y)
leaves_regroup a r x d q y g h =
    record {
      log = h.log;
      grows = grows_trans g h.grows;
      now = h.now;
      count = h.count;
      buckets = h.buckets;
      measured = h.measured;
      agrees = h.agrees;
      same = match_regroup a r x d q y h.same;
      passed = h.passed;
    }

-- the first state that is passed
passed_first : {line : ℕ} (now count b : ℕ) {s : State} {log final : Log} → now ≤ line → Grows log final → RunOk now s.cluster count b log → Passed line s final
passed_first now count b {log = log} e g h = record { log = log; grows = g; now = now; count = count; buckets = b; early = e; agrees = h }

passed_later : {k l : ℕ} {s : State} {final : Log} → k ≤ l → Passed k s final → Passed l s final
passed_later e h = record { log = h.log; grows = h.grows; now = h.now; count = h.count; buckets = h.buckets; early = omega (arith, h.early); agrees = h.agrees }

-- one line before the others
leaves_cons : {from : Log} {line : ℕ} (count b : ℕ) {s : State} {l : List ℕ} {ls : List (List ℕ)} {bs : List Begin} {es : List End} → RunOk line s.cluster count b from
    → Leaves from (line + 1) (step s l).state ls bs es → Leaves from line s (l ∷ ls) bs es
unfolding state_after_up_to
leaves_cons {line = line} count b {s} {l} {ls} h r =
    record {
      log = r.log;
      grows = r.grows;
      now = r.now;
      count = r.count;
      buckets = r.buckets;
      measured = r.measured;
      agrees = r.agrees;
      same = r.same;
      passed = go;
    }
  where
    go : (k : ℕ) → Passed (line + k) (state_after s (take k (l ∷ ls))) r.log
    go zero = passed_first line count b (omega arith) r.grows h
    go (suc k) = passed_later (omega arith) (r.passed k)

module _ (ls : List (List ℕ)) (goes : Goes ls) (l : List ℕ) (now count b : ℕ) (s : State) (log : Log) (bs : List Begin) (es : List End)
    (m : Measured s.cluster s.tally) (h : RunOk now s.cluster count b log) (same : Match bs es log) where
  -- what is to be shown, for how the line comes out
  abbrev After : LineResult → Type 0
  After x =
      Leaves log (now + 1) x.state ls (begins_from (now + 1) count b (l ∷ ls) (x.outcome ∷ outcomes x.state ls) ++ bs)
      (ends_from (now + 1) (x.outcome ∷ outcomes x.state ls) ++ es)

  took_goes : (c : Cluster) (x : Line) → parse l ≡ some x → s.cluster ≡ some c → first_of (conditions c x) ≡ none → (t : State) → t.cluster ≡ some (work c x).cluster
      → Measured t.cluster t.tally → After (record { state = t; outcome = printed (work c x).answers })
  unfolding ends_from
  took_goes c x p e f t i n =
      let k = subst (λ o. RunOk now o count b log) e h in
      let w = subst (λ o. Measured o s.tally) e m in
      let g = line_good w (later_good k.0) x (none_applies (conditions c x) f) in
      let out = (work c x).answers in
      let a = map begin_of (begun_by (now + 1) c x) in
      let d = map (end_in (now + 1)) out in
      let r = goes (now + 1) (work c x).cluster.calls (work c x).cluster.buckets t g.next (a ++ bs) (d ++ es) n
      (subst (λ o. RunOk (now + 1) o (work c x).cluster.calls (work c x).cluster.buckets g.next) (sym i) (g.good, refl, refl))
      (line_matches g (λ z o. omega (arith, k.0.facts.time.ends z o)) same) in
      let read = line_read (now + 1) c l x ls out (outcomes t ls) p f in
      rw (k.1, k.2, read) (leaves_regroup a _ bs d _ es g.grows r)

  founded_goes : (n k : ℕ) → parse l ≡ some (cluster n k) → s.cluster ≡ none → (t : State) → t.cluster ≡ some (fresh_cluster n k)
      → Measured t.cluster t.tally → After (record { state = t; outcome = printed [] })
  unfolding begins_from ends_from meaning fresh_cluster
  founded_goes n k p e t i w =
      let f = subst (λ o. RunOk now o count b log) e h in
      rw (begins_from, p)
      (goes (now + 1) count k t log bs es w (subst (λ o. RunOk (now + 1) o count k log) (sym i) (rw f.0 (fresh_good n k (now + 1)), f.1, refl)) same)

  line_goes : (x : LineResult) → ComesOut s (parse l) x → Measured x.state.cluster x.state.tally → After x
  unfolding begins_from ends_from
  line_goes x (refused_by_lem r low high) w = goes (now + 1) count b s log bs es m (later_run now count b s.cluster log h) same
  line_goes x (founded n k p u v e) w = founded_goes n k p e _ refl w
  line_goes x (took c y p e f room) w = took_goes c y p e f _ refl w

pub run_goes : (ls : List (List ℕ)) → Goes ls
unfolding begins_from ends_from outcomes_up_to state_after_up_to
run_goes [] now count b s log bs es m h same =
    record { log = log; grows = grows_refl log; now = now; count = count; buckets = b; measured = m; agrees = h; same = same; passed = go }
  where
    go : (k : ℕ) → Passed (now + k) (state_after s (take k [])) log
    go zero = passed_first now count b (omega arith) (grows_refl log) h
    go (suc k) = passed_first now count b (omega arith) (grows_refl log) h
run_goes (l ∷ ls) now count b s log bs es m h same =
    leaves_cons count b h
    (line_goes ls (run_goes ls) l now count b s log bs es m h same (step s l) (comes_out max_election s l) (line_keeps_measures max_election s (parse l) (step s l) (comes_out max_election s l) m))

-- ---- every script, run from nothing

no_match : Match [] [] empty_log
no_match = record { begun = λ x m. none_in m; begins = λ x m. none_in m; ended = λ x m. none_in m; ends = λ x m. none_in m; once = tt }

pub script_leaves : (ls : List (List ℕ)) → Leaves empty_log 0 initial_state ls (begins ls) (ends ls)
script_leaves ls = rw (← append-nil (begins ls), ← append-nil (ends ls)) (run_goes ls 0 0 0 initial_state empty_log [] [] refl (refl, refl) no_match)
