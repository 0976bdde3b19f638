-- How long a quiet call takes (RULES, Quiet calls). This file is the whole statement: five claims and the terms they need.
-- `QuietCall` is the claim, and `QuietCallOfAScript` the same about the states that scripts reach; `InAnyOrder` and
-- `InAnyOrderOfAScript` are stronger; `NoSmaller` says that no smaller figure will do. Theorems: `quiet_call`,
-- `quiet_call_of_a_script`, `quiet_call_in_any_order`, `quiet_call_in_any_order_of_a_script` in proofs/Theorem.antt, `least` in
-- proofs/Least.antt. Of the rules of the bench the claims use `majority`, `parse`, which reads a line, and `step`, which runs it
-- (`state_after` is `step` line after line); the rest are measures, text and parts of a state. A line is any list of bytes.
use Rattle.std.specs.Prelude.{◌≡◌, ◌≢◌, true, false, ℕ, suc, ◌+◌, ◌-◌, ◌*◌, ◌≤◌, ◌<◌, length}
use mathlib.Core.List.{List, [], ◌∷◌, ◌++◌, Memᴰ}
use Rattle.std.proofs.Math.Option.{none, some}
use Rattle.model.specs.Measures.{majority, max_servers, max_accepted}
use Rattle.model.specs.Calls.{Words, notdone, unknown, Answer}
use Rattle.model.specs.Cluster.{leading, Server, Cluster, call_at}
use Rattle.model.specs.Lines.{State, initial_state, printed, call, deliver, server_at, stopped_at}
use Rattle.model.specs.Text.{bytes}
use Rattle.model.specs.Parse.{parse}
use Rattle.model.specs.Run.{step, state_after}

-- ---- the hypotheses, about a cluster c and its server p

abbrev pub servers_of : Cluster → ℕ
servers_of c = length c.servers

-- how many servers run
unfoldable pub running : List Server → ℕ
running [] = 0
running (s ∷ l) = elim s.stopped [ true ↦ running l | false ↦ suc (running l) ]

-- the figure: the most deliveries that a quiet call takes among n servers
abbrev pub deliveries : ℕ → ℕ
deliveries n = 8 * (n - 1)

-- what the measures give every cluster: at most 7 servers, at least one bucket, and at each server a place for the
-- round and for the call of each bucket
pub record Shaped (c : Cluster) : Type 0 where
  pub few_servers : servers_of c ≤ max_servers
  pub some_buckets : 1 ≤ c.buckets
  pub rounds : (q : ℕ) → q < servers_of c → length (server_at c q).volatile.rounds ≡ c.buckets
  pub calls : (q : ℕ) → q < servers_of c → length (server_at c q).volatile.calls ≡ c.buckets

-- p's number is no lower than any running server's vote
abbrev pub Highest : Cluster → ℕ → Type 0
Highest c p = (q : ℕ) → q < servers_of c → stopped_at c q ≡ false → (server_at c q).stored.vote ≤ (server_at c p).stored.number

abbrev pub MajorityRuns : Cluster → Type 0
MajorityRuns c = majority (servers_of c) ≤ running c.servers

abbrev pub NoneInFlight : Cluster → Type 0
NoneInFlight c = c.messages ≡ []

abbrev pub NoCallOpen : Cluster → Type 0
NoCallOpen c = (q b : ℕ) → call_at (server_at c q).volatile b ≡ none

-- lines are left for the deliveries and for the call itself
abbrev pub LinesLeft : Cluster → Type 0
LinesLeft c = c.accepted + (deliveries (servers_of c) + 1) ≤ max_accepted

-- the hypotheses, in the order of RULES, Quiet calls
pub record Quiet (c : Cluster) (p : ℕ) : Type 0 where
  pub leads : (server_at c p).volatile.role ≡ leading
  pub highest : Highest c p
  pub majority_runs : MajorityRuns c
  pub none_in_flight : NoneInFlight c
  pub none_open : NoCallOpen c
  pub lines_left : LinesLeft c

-- those that the proof needs: only a leader accepts a call, and only where the call's own bucket has none open
pub record Needed (c : Cluster) (p : ℕ) : Type 0 where
  pub highest : Highest c p
  pub majority_runs : MajorityRuns c
  pub none_in_flight : NoneInFlight c
  pub lines_left : LinesLeft c

-- line l is a call at p that state s accepts; `out` is what the line prints, nothing or answers
pub record CallAccepted (s : State) (p : ℕ) (l : List ℕ) (out : List Answer) : Type 0 where
  pub words : Words
  pub reads : parse l ≡ some (call p words)
  pub accepted : (step s l).outcome ≡ printed out

-- ---- the conclusion

-- `deliver 0` repeated until the list is empty: how often, from which state, with which answers, to which state. Every one of
-- these lines is accepted
pub data Drains : ℕ → State → List Answer → State → Type 0 where
  drained : {s : State} (c : Cluster) → s.cluster ≡ some c → NoneInFlight c → Drains 0 s [] s
  oldest :
      {k : ℕ} {s t : State} (c : Cluster) (out : List Answer) {more : List Answer} → s.cluster ≡ some c → (NoneInFlight c → ⊥) →
      (step s (bytes "deliver 0")).outcome ≡ printed out → Drains k (step s (bytes "deliver 0")).state more t →
      Drains (suc k) s (out ++ more) t

-- call i has a result other than `notdone` and `unknown` among the answers. It has no other: in a script each call is answered at
-- most once (`answered_once` in crates/consistency/proofs/Named.antt)
pub record Answered (i : ℕ) (out : List Answer) : Type 0 where
  pub answer : Answer
  pub among : Memᴰ answer out
  pub call : answer.call ≡ i
  pub not_notdone : answer.result ≢ notdone
  pub not_unknown : answer.result ≢ unknown

-- after the line of call i, which printed `out` and left state s, among n servers
pub record Ends (n i : ℕ) (out : List Answer) (s : State) : Type 0 where
  pub count : ℕ
  pub few : count ≤ deliveries n
  pub more : List Answer
  pub last : State
  pub drains : Drains count s more last
  pub answered : Answered i (out ++ more)

-- ---- the claim

-- in any state whose cluster has that shape, reached by a script or not; `c.calls + 1` is the number that the call gets
abbrev pub QuietCall : Type 0
QuietCall =
    (s : State) (c : Cluster) → s.cluster ≡ some c → Shaped c → (p : ℕ) → Quiet c p →
    (l : List ℕ) (out : List Answer) → CallAccepted s p l out → Ends (servers_of c) (c.calls + 1) out (step s l).state

-- after any lines `ls` of a script
abbrev pub QuietCallOfAScript : Type 0
QuietCallOfAScript =
    (ls : List (List ℕ)) → let s = state_after initial_state ls in
    (c : Cluster) → s.cluster ≡ some c → (p : ℕ) → Quiet c p →
    (l : List ℕ) (out : List Answer) → CallAccepted s p l out → Ends (servers_of c) (c.calls + 1) out (step s l).state

-- ---- more than was asked for: any order of delivery, and other calls may be open

-- k lines `deliver I`, whatever I is in each of them, all accepted
pub data Delivered : ℕ → State → List Answer → State → Type 0 where
  nothing : {s : State} → Delivered 0 s [] s
  any :
      {k : ℕ} {s t : State} (l : List ℕ) (index : ℕ) (out : List Answer) {more : List Answer} → parse l ≡ some (deliver index) →
      (step s l).outcome ≡ printed out → Delivered k (step s l).state more t → Delivered (suc k) s (out ++ more) t

-- k deliveries after the line of call i, in state s; `out` was printed from that line on
pub record Underway (n i k : ℕ) (out : List Answer) (s : State) : Type 0 where
  pub cluster : Cluster
  pub is : s.cluster ≡ some cluster
  pub few : k ≤ deliveries n
  -- any message of the list can be delivered next
  pub deliverable : (l : List ℕ) (index : ℕ) → parse l ≡ some (deliver index) → index < length cluster.messages →
      (more : List Answer) × ((step s l).outcome ≡ printed more)
  pub answered : NoneInFlight cluster → Answered i out

-- in a state that no script reaches an open call could already have the number `c.calls + 1`; in a script each call has its own
abbrev pub InAnyOrder : Type 0
InAnyOrder =
    (s : State) (c : Cluster) → s.cluster ≡ some c → Shaped c → (p : ℕ) → Needed c p →
    (l : List ℕ) (out : List Answer) → CallAccepted s p l out →
    (k : ℕ) (more : List Answer) (t : State) → Delivered k (step s l).state more t →
    Underway (servers_of c) (c.calls + 1) k (out ++ more) t

abbrev pub InAnyOrderOfAScript : Type 0
InAnyOrderOfAScript =
    (ls : List (List ℕ)) → let s = state_after initial_state ls in
    (c : Cluster) → s.cluster ≡ some c → (p : ℕ) → Needed c p →
    (l : List ℕ) (out : List Answer) → CallAccepted s p l out →
    (k : ℕ) (more : List Answer) (t : State) → Delivered k (step s l).state more t →
    Underway (servers_of c) (c.calls + 1) k (out ++ more) t

-- ---- no smaller figure

-- a script of n servers after which a quiet call takes all these deliveries; how many it takes is determined (`drains_once`)
pub record Least (n : ℕ) : Type 0 where
  pub script : List (List ℕ)
  pub cluster : Cluster
  pub is : (state_after initial_state script).cluster ≡ some cluster
  pub size : servers_of cluster ≡ n
  pub server : ℕ
  pub quiet : Quiet cluster server
  pub line : List ℕ
  pub out : List Answer
  pub call : CallAccepted (state_after initial_state script) server line out
  pub more : List Answer
  pub last : State
  pub drains : Drains (deliveries n) (step (state_after initial_state script) line).state more last

-- for every size of a cluster
abbrev pub NoSmaller : Type 0
NoSmaller = (n : ℕ) → 1 ≤ n → n ≤ max_servers → Least n
