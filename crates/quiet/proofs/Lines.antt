-- Lines of a quiet call: what an accepted line did, when `deliver I` is accepted, and what it leaves of the call.
use mathlib.Core.Path.{◌≡◌, refl, sym, ap, ◌∙◌}
use mathlib.Core.Logic.{inl, inr, ◌≢◌}
use mathlib.Core.List.{List, [], ◌∷◌}
use mathlib.Core.Option.{Option, none, some}
use mathlib.Core.Bool.{true, false}
use Prim.Native.Nat.{ℕ, ◌+◌, ◌-◌, ◌≤◌, ◌<◌}
use native.Mathlib.Omega.{arith}
use lib.ListN.{length, get_or}
use borrow.Author.Tests.{le-leb, lt-leb}
use Rattle.model.specs.Measures.{majority, max_servers, max_messages, max_accepted, max_election}
use Rattle.model.specs.Calls.{Answer}
use Rattle.model.specs.Cluster.{acknowledged, refused, Round, Call, Cluster, fresh_server}
use Rattle.model.specs.Leader.{closes, acknowledgements}
use Rattle.model.specs.Lines.{Line, deliver, State, printed, message_at, stopped_at, drop_at, first_of, conditions, conditions_up_to, limit_reached, no_message, work, tallied, LineResult, accept_line, in_cluster_up_to, perform_up_to}
use Rattle.model.specs.Parse.{parse}
use Rattle.model.specs.Run.{step, step_up_to}
use Rattle.limits.specs.Lists.{All}
use Rattle.limits.proofs.Lists.{all_head, all_tail, all_append, all_take, all_drop, all_at}
use Rattle.limits.proofs.Refusals.{ComesOut, refused_by_lem, founded, took, comes_out}
use Rattle.limits.proofs.Counting.{none_applies, message_there}
use Rattle.quiet.specs.Statement.{deliveries, Answered}
use Rattle.quiet.proofs.Counting.{running_acknowledged}
use Rattle.quiet.proofs.Weights.{weighs, weigh, length_weigh, weigh_drop_at}
use Rattle.quiet.proofs.Messages.{Followed, Ours, awaited_at}
use Rattle.quiet.proofs.Rounds.{Slot, slot_among}
use Rattle.quiet.proofs.Delivering.{Going, potential, delivered_onward}

-- ---- an accepted line

pub record Taken (c : Cluster) (y : Line) (x : LineResult) (out : List Answer) : Type 0 where
  pub free : first_of (conditions c y) ≡ none
  pub cluster : x.state.cluster ≡ some (work c y).cluster
  pub answers : (work c y).answers ≡ out

pub accepted_line : (s : State) (c : Cluster) (l : List ℕ) (y : Line) (out : List Answer) → s.cluster ≡ some c → parse l ≡ some y →
    (step s l).outcome ≡ printed out → Taken c y (step s l) out
accepted_line s c l y out is reads accepted = go (parse l) reads (step s l) (comes_out max_election s l) accepted
  where
    go : (o : Option Line) → o ≡ some y → (x : LineResult) → ComesOut s o x → x.outcome ≡ printed out → Taken c y x out
    go o r x (refused_by_lem k low high) a = let z : ◌≡◌ {A = ℕ} 0 1 = cc in absurd (omega arith)
    go o r x (founded k b q f g none_yet) a = let z : ◌≡◌ {A = ℕ} 0 1 = cc (none_yet, is) in absurd (omega arith)
    go o r x (took d v q st f room) a =
        let same : d ≡ c = cc (st, is) in
        let line : v ≡ y = cc (q, r) in
        rw (← same, ← line) (record { free = f; cluster = refl; answers = cc })

-- ---- `deliver I`

module _ (s : State) (c : Cluster) (l : List ℕ) (index : ℕ) (is : s.cluster ≡ some c) (reads : parse l ≡ some (deliver index)) where
  pub delivered_there : (out : List Answer) → (step s l).outcome ≡ printed out → index < length c.messages
  unfolding conditions_up_to
  delivered_there out accepted =
      let t = accepted_line s c l (deliver index) out is reads accepted in
      message_there c index (all_head (all_tail (none_applies (conditions c (deliver index)) t.free)))

  -- with lines and places left it is accepted
  delivering : index < length c.messages → c.accepted < max_accepted → length (work c (deliver index)).cluster.messages ≤ max_messages →
      step s l ≡ record { state = record { cluster = some (work c (deliver index)).cluster; tally = tallied s.tally (work c (deliver index)) }; outcome = printed (work c (deliver index)).answers }
  unfolding step_up_to perform_up_to in_cluster_up_to conditions_up_to first_of limit_reached no_message accept_line
  delivering there low room =
      rw (step_up_to, reads, perform_up_to, is, in_cluster_up_to, first_of, lt-leb max_accepted c.accepted low, lt-leb (length c.messages) index there, accept_line, le-leb (length (work c (deliver index)).cluster.messages) max_messages room)

-- ---- a call in the midst of its deliveries, of which at most `most` may follow

pub record Along (f : Followed) (most : ℕ) (s : State) : Type 0 where
  pub cluster : Cluster
  pub is : s.cluster ≡ some cluster
  pub going : Going f cluster
  pub few : potential going ≤ most
  pub lines : cluster.accepted + most ≤ max_accepted

-- a delivery is accepted and leaves fewer; where the call was open and is over, it has its result
pub record Delivers (f : Followed) (most : ℕ) (before : Option Round) (x : LineResult) : Type 0 where
  pub answers : List Answer
  pub accepted : x.outcome ≡ printed answers
  pub after : Along f (most - 1) x.state
  pub some_left : 1 ≤ most
  pub ended : before ≢ none → after.going.round ≡ none → Answered f.call answers

module _ (f : Followed) (small : f.servers ≤ max_servers) {most : ℕ} (bound : most ≤ deliveries f.servers) {s : State} (a : Along f most s) where
  pub delivers : (l : List ℕ) (index : ℕ) → parse l ≡ some (deliver index) → index < length a.cluster.messages →
      Delivers f most a.going.round (step s l)
  unfolding work weigh
  delivers l index reads there =
      let c = a.cluster in
      let g = a.going in
      let m = message_at c index in
      let ms = drop_at index c.messages in
      let here : Ours f m = all_at index _ there g.ours in
      let others : All (Ours f) ms = all_append (all_take index g.ours) (all_drop (index + 1) g.ours) in
      let slot : Slot f (m ∷ ms) g.round g.call = slot_among f g.round g.call (λ q k up. awaited_at index _ c.messages there) g.slot in
      let o = delivered_onward f c g m ms here others slot in
      let same : weighs m.body + weigh ms ≡ weigh c.messages = weigh_drop_at index _ c.messages there in
      let w = work c (deliver index) in
      let room : length w.cluster.messages ≤ max_messages = omega (arith, length_weigh w.cluster.messages, o.less, same, a.few) in
      let t = delivering s c l index a.is reads there (omega (arith, o.less, same, a.few, a.lines)) room in
      record {
        answers = w.answers;
        accepted = ap (λ x. x.outcome) t;
        after =
            record {
              cluster = w.cluster;
              is = ap (λ x. x.state.cluster) t;
              going = o.going;
              few = omega (arith, o.less, same, a.few);
              lines = omega (arith, o.accepted, o.less, same, a.few, a.lines);
            };
        some_left = omega (arith, o.less, same, a.few);
        ended = o.ended;
      }

-- ---- the list is empty

closes_by : (n : ℕ) (r : Round) → majority n ≤ acknowledgements r.marks → closes n r ≡ true
unfolding closes
closes_by n r h = le-leb (majority n) (acknowledgements r.marks) h

-- no round is open then: all that run have acknowledged it, and they are a majority
pub none_waits : (f : Followed) (c : Cluster) (g : Going f c) → c.messages ≡ [] → g.round ≡ none
none_waits f c g l = go g.round g.call (rw l at g.slot)
  where
    go : (ro : Option Round) (co : Option Call) → Slot f [] ro co → ro ≡ none
    go none co h = refl
    go (some r) none h = absurd h
    go (some r) (some k) (mine, w) =
        let told : (q : ℕ) → q < length c.servers → stopped_at c q ≡ false → get_or r.marks q refused ≡ acknowledged =
        λ q x y. elim (w.awaited q (omega (arith, g.size)) (sym (g.flags q) ∙ y)) [ inl z ↦ z | inr z ↦ elim z [ ] ] in
        let all = running_acknowledged c.servers r.marks (fresh_server 0 0) (w.marks ∙ sym g.size) told in
        let shut : closes f.servers r ≡ true = closes_by f.servers r (omega (arith, g.most)) in
        let z : ◌≡◌ {A = ℕ} 0 1 = cc (sym shut ∙ w.unclosed) in
        absurd (omega arith)
