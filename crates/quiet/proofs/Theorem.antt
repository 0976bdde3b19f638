-- A quiet call takes at most 8 (n - 1) deliveries: `quiet_call`, by way of the stronger `quiet_call_in_any_order`.
use mathlib.Core.Path.{◌≡◌, refl, sym, ap, ◌∙◌, subst}
use mathlib.Core.Logic.{◌⊎◌, inl, inr, ◌≢◌}
use mathlib.Core.List.Memᴰ
use mathlib.Core.List.{List, [], ◌∷◌, ◌++◌, append-nil, append_assoc}
use mathlib.Core.Bool.{false}
use mathlib.Core.Option.{Option, none, some}
use Prim.Native.Nat.{ℕ, zero, suc, ◌+◌, ◌-◌, ◌≤◌, ◌<◌}
use native.Mathlib.Omega.{arith}
use lib.ListN.{length, get_or, set, replicate, length-set}
use lib.Seq.{get_or-set_same, get_or-set_other}
use Rattle.model.specs.Measures.{max_servers, max_election}
use Rattle.model.specs.Calls.{Words, bucket_for, Answer}
use Rattle.model.specs.Cluster.{Round, Message, Cluster, fresh_server, round_at, call_at}
use Rattle.model.specs.Leader.{Reaction, begin_call}
use Rattle.model.specs.Lines.{call, deliver, Tally, State, initial_state, Outcome, refusal, printed, server_at, stopped_at, conditions, conditions_up_to, no_server, no_bucket_for, work}
use Rattle.model.specs.Text.{bytes}
use Rattle.model.specs.Parse.{parse}
use Rattle.model.specs.Run.{step, state_after_up_to, state_after, outcomes_up_to, outcomes}
use Rattle.model.specs.Compute.{computing}
use Rattle.limits.specs.Lists.{All, nil, cons}
use Rattle.limits.proofs.Lists.{all_append, all_at}
use Rattle.limits.proofs.Counting.{none_applies}
use Rattle.limits.specs.Stands.{Stands, Measured}
use Rattle.limits.proofs.Always.{either_false, server_there, bucket_less, within_always}
use Rattle.quiet.specs.Statement.{servers_of, deliveries, Needed, Drains, drained, oldest, Answered, Ends, Shaped, QuietCall, QuietCallOfAScript, Delivered, nothing, any, Underway, InAnyOrder, InAnyOrderOfAScript}
use Rattle.quiet.proofs.Counting.{running_set}
use Rattle.quiet.proofs.Weights.{weigh, weigh_append}
use Rattle.quiet.proofs.Messages.{Followed, Ours}
use Rattle.quiet.proofs.Rounds.{slot_more, owed, Goes, begin_goes}
use Rattle.quiet.proofs.Delivering.{Going, potential, flags_set}
use Rattle.quiet.proofs.Lines.{accepted_line, delivered_there, Along, delivers, none_waits}

-- ---- answers

answered_later : {i : ℕ} (a : List Answer) {b : List Answer} → Answered i b → Answered i (a ++ b)
answered_later a h = record { answer = h.answer; among = Memᴰ.append_right a h.among; call = h.call; not_notdone = h.not_notdone; not_unknown = h.not_unknown }

answered_before : {i : ℕ} {a : List Answer} (b : List Answer) → Answered i a → Answered i (a ++ b)
answered_before b h = record { answer = h.answer; among = Memᴰ.append_left b h.among; call = h.call; not_notdone = h.not_notdone; not_unknown = h.not_unknown }

none_or_some : {A : Type 0} (o : Option A) → (o ≡ none) ⊎ (o ≢ none)
none_or_some none = inl refl
none_or_some (some a) = inr (λ e. let z : ◌≡◌ {A = ℕ} 0 1 = cc in omega arith)

-- ---- deliveries in any order

-- after k of them, of which at most `most` could follow the state with round `before`
record Passed (f : Followed) (most k : ℕ) (before : Option Round) (more : List Answer) (t : State) : Type 0 where
  left : ℕ
  sum : k + left ≡ most
  after : Along f left t
  ended : before ≢ none → after.going.round ≡ none → Answered f.call more

passed : (f : Followed) → f.servers ≤ max_servers → (most : ℕ) → most ≤ deliveries f.servers → {k : ℕ} {s t : State} {more : List Answer} →
    Delivered k s more t → (a : Along f most s) → Passed f most k a.going.round more t
passed f small most bound nothing a = record { left = most; sum = omega arith; after = a; ended = λ x y. absurd (x y) }
passed f small most bound (any {k = k} {s = s} {t = t} l index out {more = more} reads accepted rest) a =
    let there = delivered_there s a.cluster l index a.is reads out accepted in
    let d = delivers f small bound a l index reads there in
    let same : d.answers ≡ out = cc (d.accepted, accepted) in
    let p = passed f small (most - 1) (omega (arith, bound)) rest d.after in
    record {
      left = p.left;
      sum = omega (arith, p.sum, d.some_left);
      after = p.after;
      ended = λ waits over. elim (none_or_some d.after.going.round) [
        | inl x ↦ answered_before more (subst (Answered f.call) same (d.ended waits x))
        | inr x ↦ answered_later out (p.ended x over)
      ];
    }

-- ---- the call's own line

-- what the tests of a call tell
taken_call : (c : Cluster) (p : ℕ) (w : Words) → All (λ x. x.applies ≡ false) (conditions c (call p w)) → (no_server c p ≡ false) × (no_bucket_for c w ≡ false) × (stopped_at c p ≡ false)
unfolding conditions_up_to
taken_call c p w (cons e (cons f (cons g (cons h k)))) = let (x, y) = either_false _ _ e in (x, y, h)

-- p is the server and w the words of a call that the cluster c takes
module _ (c : Cluster) (p : ℕ) (w : Words) (few : servers_of c ≤ max_servers) (needed : Needed c p) (there : p < servers_of c) (runs : stopped_at c p ≡ false)
    (rounds : bucket_for c.buckets w < length (server_at c p).volatile.rounds) (calls : bucket_for c.buckets w < length (server_at c p).volatile.calls) where
  abbrev f : Followed
  f =
      record {
        servers = servers_of c;
        election = (server_at c p).stored.number;
        leader = p;
        bucket = bucket_for c.buckets w;
        call = c.calls + 1;
        inside = there;
        stops = λ q. stopped_at c q;
        runs = runs;
      }

  abbrev begun : Reaction
  begun = begin_call (servers_of c) p f.bucket f.call w (server_at c p)

  begins : Goes f 4 begun
  begins = begin_goes f w (record { number = refl; stopped = refl; rounds = rounds; calls = calls })

  unfoldable after_call : Going f (work c (call p w)).cluster
  unfolding work
  after_call =
      let d = fresh_server 0 0 in
      let s = begun.server in
      let same : get_or (set c.servers p s) p d ≡ s = get_or-set_same c.servers p s d there in
      let as_before : s.stopped ≡ (server_at c p).stopped = begins.is_leader.stopped in
      record {
        size = length-set c.servers p s;
        flags = λ q. flags_set c.servers p s there d as_before q;
        votes = λ q h k up. rw (get_or-set_other c.servers p q s d k) (omega (arith, needed.highest q h up));
        most = omega (arith, running_set c.servers p s d as_before, needed.majority_runs);
        is_leader = rw same begins.is_leader;
        round = begins.round;
        call = begins.call;
        round_is = ap (λ y. round_at y.volatile f.bucket) same ∙ begins.round_is;
        call_is = ap (λ y. call_at y.volatile f.bucket) same ∙ begins.call_is;
        ours = all_append (subst (All (Ours f)) (sym needed.none_in_flight) nil) begins.ours;
        slot = slot_more f c.messages begun.sends begins.round begins.call begins.slot;
      }

  -- four rounds, each with a request and a reply for every other server
  owed_four : owed f 4 ≤ deliveries (servers_of c)
  unfolding owed
  owed_four = omega arith

  potential_after : potential after_call ≤ deliveries (servers_of c)
  unfolding work weigh after_call
  potential_after = omega (arith, weigh_append c.messages begun.sends, ap weigh needed.none_in_flight, begins.weight, owed_four)

  -- state s is what the line left
  along_call : (s : State) → s.cluster ≡ some (work c (call p w)).cluster → Along f (deliveries (servers_of c)) s
  unfolding work
  along_call s is =
      record { cluster = (work c (call p w)).cluster; is = is; going = after_call; few = potential_after; lines = omega (arith, needed.lines_left) }

  call_underway : (s : State) → s.cluster ≡ some (work c (call p w)).cluster → (k : ℕ) (more : List Answer) (t : State) → Delivered k s more t →
      Underway (servers_of c) (c.calls + 1) k ((work c (call p w)).answers ++ more) t
  unfolding work after_call along_call
  call_underway s is k more t d =
      let r = passed f few (deliveries (servers_of c)) (omega arith) d (along_call s is) in
      let a = r.after in
      record {
        cluster = a.cluster;
        is = a.is;
        few = omega (arith, r.sum);
        deliverable = λ l index reads h. let x = delivers f few (omega (arith, r.sum)) a l index reads h in (x.answers, x.accepted);
        answered = λ empty. elim (none_or_some begins.round) [
          | inl x ↦ answered_before more (begins.ended x)
          | inr x ↦ answered_later begun.answers (r.ended x (none_waits f a.cluster a.going empty))
        ];
      }

-- ---- the theorem

pub quiet_call_in_any_order : InAnyOrder
quiet_call_in_any_order s c is h p needed l out x k more t d =
    let y = accepted_line s c l (call p x.words) out is x.reads x.accepted in
    let (no-server, no-bucket, runs) = taken_call c p x.words (none_applies (conditions c (call p x.words)) y.free) in
    let there = server_there c p no-server in
    let bucket = bucket_less c x.words h.some_buckets no-bucket in
    let rounds : bucket_for c.buckets x.words < length (server_at c p).volatile.rounds = omega (arith, bucket, h.rounds p there) in
    let calls : bucket_for c.buckets x.words < length (server_at c p).volatile.calls = omega (arith, bucket, h.calls p there) in
    subst (λ a. Underway (servers_of c) (c.calls + 1) k (a ++ more) t) y.answers
    (call_underway c p x.words h.few_servers needed there runs rounds calls (step s l).state y.cluster k more t d)

-- ---- the oldest message each time

deliver_line_lem : parse (bytes "deliver 0") ≡ some (deliver 0)
unfolding computing
deliver_line_lem = refl

-- one more delivery
delivered_too : {k : ℕ} {s t : State} {more : List Answer} (l : List ℕ) (index : ℕ) (out : List Answer) → parse l ≡ some (deliver index) → (step t l).outcome ≡ printed out →
    Delivered k s more t → Delivered (suc k) s (more ++ out) (step t l).state
delivered_too {t = t} l index out reads accepted nothing = subst (λ x. Delivered 1 t x (step t l).state) (append-nil out) (any l index out reads accepted nothing)
delivered_too {t = t} l index out reads accepted (any {k = k} {s = s} m at o {more = more} r a rest) =
    subst (λ x. Delivered (suc (suc k)) s x (step t l).state) (sym (append_assoc o more out)) (any m at o r a (delivered_too l index out reads accepted rest))

-- from state s on, after which any order of delivery is as `orders` says
module _ (n i : ℕ) (out : List Answer) (s : State) (orders : (k : ℕ) (more : List Answer) (t : State) → Delivered k s more t → Underway n i k (out ++ more) t) where
  record DrainedFrom (k : ℕ) (more : List Answer) (t : State) : Type 0 where
    count : ℕ
    few : k + count ≤ deliveries n
    rest : List Answer
    last : State
    drains : Drains count t rest last
    answered : Answered i (out ++ (more ++ rest))

  stop_here : (k : ℕ) (more : List Answer) (t : State) (d : Delivered k s more t) → (orders k more t d).cluster.messages ≡ [] → DrainedFrom k more t
  stop_here k more t d e =
      let u = orders k more t d in
      record {
        count = 0;
        few = omega (arith, u.few);
        rest = [];
        last = t;
        drains = drained u.cluster u.is e;
        answered = subst (λ y. Answered i (out ++ y)) (sym (append-nil more)) (u.answered e);
      }

  abbrev after_one : State → State
  after_one t = (step t (bytes "deliver 0")).state

  go_on : (k : ℕ) (more : List Answer) (t : State) (d : Delivered k s more t) (m : Message) (ms : List Message) → (orders k more t d).cluster.messages ≡ m ∷ ms →
      ((o : List Answer) → Delivered (suc k) s (more ++ o) (after_one t) → DrainedFrom (suc k) (more ++ o) (after_one t)) → DrainedFrom k more t
  go_on k more t d m ms e then =
      let u = orders k more t d in
      let (o, accepted) = u.deliverable (bytes "deliver 0") 0 deliver_line_lem (omega (arith, ap length e)) in
      let r = then o (delivered_too (bytes "deliver 0") 0 o deliver_line_lem accepted d) in
      record {
        count = suc r.count;
        few = omega (arith, r.few);
        rest = o ++ r.rest;
        last = r.last;
        drains = oldest u.cluster o u.is (λ x. let z : ◌≡◌ {A = ℕ} 0 1 = cc (sym e ∙ x) in omega arith) accepted r.drains;
        answered = subst (λ y. Answered i (out ++ y)) (append_assoc more o r.rest) r.answered;
      }

  drain : (room k : ℕ) (more : List Answer) (t : State) → Delivered k s more t → deliveries n ≤ k + room → DrainedFrom k more t
  drain zero k more t d h = go (orders k more t d).cluster.messages refl
    where
      go : (ms : List Message) → (orders k more t d).cluster.messages ≡ ms → DrainedFrom k more t
      go [] e = stop_here k more t d e
      go (m ∷ ms) e = go_on k more t d m ms e (λ o d2. absurd (omega (arith, (orders (suc k) (more ++ o) (after_one t) d2).few)))
  drain (suc room) k more t d h = go (orders k more t d).cluster.messages refl (drain room)
    where
      go : (ms : List Message) → (orders k more t d).cluster.messages ≡ ms →
          ((j : ℕ) (x : List Answer) (y : State) → Delivered j s x y → deliveries n ≤ j + room → DrainedFrom j x y) → DrainedFrom k more t
      go [] e on = stop_here k more t d e
      go (m ∷ ms) e on = go_on k more t d m ms e (λ o d2. on (suc k) (more ++ o) (after_one t) d2 (omega arith))

  ends_by_orders : Ends n i out s
  ends_by_orders =
      let r = drain (deliveries n) 0 [] s nothing (omega arith) in
      record { count = r.count; few = omega (arith, r.few); more = r.rest; last = r.last; drains = r.drains; answered = r.answered }

-- the stronger theorem gives the claim
pub stronger : InAnyOrder → QuietCall
stronger h s c is shaped p quiet l out x =
    let needed : Needed c p = record { highest = quiet.highest; majority_runs = quiet.majority_runs; none_in_flight = quiet.none_in_flight; lines_left = quiet.lines_left } in
    ends_by_orders (servers_of c) (c.calls + 1) out (step s l).state (h s c is shaped p needed l out x)

pub quiet_call : QuietCall
quiet_call = stronger quiet_call_in_any_order

-- clusters within the measures have that shape
pub stands_shaped : {c : Cluster} {t : Tally} → Stands c t → Shaped c
stands_shaped h =
    let w = h.within in
    record {
      few_servers = omega (arith, w.size, h.few_servers);
      some_buckets = omega (arith, w.buckets, h.some_buckets);
      rounds = λ q k. (all_at q (fresh_server 0 0) k w.servers).frame.rounds ∙ sym w.buckets;
      calls = λ q k. (all_at q (fresh_server 0 0) k w.servers).frame.calls ∙ sym w.buckets;
    }

-- and so have all that a script reaches
reached_shaped : (ls : List (List ℕ)) (c : Cluster) → (state_after initial_state ls).cluster ≡ some c → Shaped c
reached_shaped ls c is = stands_shaped (subst (λ o. Measured o (state_after initial_state ls).tally) is (within_always max_election ls))

pub quiet_call_of_a_script : QuietCallOfAScript
quiet_call_of_a_script ls c is = quiet_call (state_after initial_state ls) c is (reached_shaped ls c is)

pub quiet_call_in_any_order_of_a_script : InAnyOrderOfAScript
quiet_call_in_any_order_of_a_script ls c is = quiet_call_in_any_order (state_after initial_state ls) c is (reached_shaped ls c is)

-- ---- 'until the list is empty' says how often

pub drains_once : {k m : ℕ} {s t u : State} {a b : List Answer} → Drains k s a t → Drains m s b u → (k ≡ m) × (a ≡ b) × (t ≡ u)
drains_once (drained c is none_left) (drained d here none-there) = (refl, refl, refl)
drains_once (drained c is none_left) (oldest d o here one-there accepted rest) =
    let same : c ≡ d = cc (is, here) in
    absurd (one-there (rw same at none_left))
drains_once (oldest c o is one_left accepted rest) (drained d here none-there) =
    let same : c ≡ d = cc (is, here) in
    absurd (one_left (rw (← same) at none-there))
drains_once (oldest c o is one_left accepted rest) (oldest d x here one-there taken others) =
    let same : o ≡ x = cc (accepted, taken) in
    let (i, j, k) = drains_once rest others in
    (ap suc i, rw (same, j), k)

-- what lines print, without the refusals
unfoldable pub answers_of : List Outcome → List Answer
answers_of [] = []
answers_of (refusal r ∷ l) = answers_of l
answers_of (printed out ∷ l) = out ++ answers_of l

-- and it is so many lines of a script
pub drains_by_lines : {k : ℕ} {s t : State} {more : List Answer} → Drains k s more t →
    let ls = replicate k (bytes "deliver 0") in
    (state_after s ls ≡ t) × (answers_of (outcomes s ls) ≡ more)
unfolding state_after_up_to outcomes_up_to answers_of
drains_by_lines (drained c is none_left) = (refl, refl)
drains_by_lines (oldest c out is one_left accepted rest) =
    let (x, y) = drains_by_lines rest in
    (x, rw accepted (ap (λ a. out ++ a) y))
