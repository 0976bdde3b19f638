-- One message of the call is handed over: an acknowledgement to the leader, or a request to a replica.
use mathlib.Core.Path.{◌≡◌, refl, sym, ap, ◌∙◌, subst}
use mathlib.Core.Logic.{◌⊎◌, inl, inr, ◌≢◌}
use mathlib.Core.List.{List, [], ◌∷◌, ◌++◌, append-nil}
use mathlib.Core.Bool.{Bool, true, false}
use mathlib.Core.Option.{Option, none, some}
use Prim.Native.Nat.{ℕ, ◌+◌, ◌-◌, ◌≤◌, ◌<◌}
use native.Mathlib.Omega.{arith}
use native.Mathlib.Decide.{ℕ_discrete}
use lib.Dec.{eqb}
use lib.ListN.{length, get_or, set, length-set}
use lib.Seq.{get_or-set_same, get_or-set_other}
use borrow.Author.Tests.{eqb-false, eq-eqb, le-ltb}
use Rattle.model.specs.Measures.{majority}
use Rattle.model.specs.Cluster.{Copy, Stored, Mark, silent, acknowledged, refused, Round, Call, Server, Body, Message, round_at, call_at}
use Rattle.model.specs.Replica.{Request, reading, writing, may_accept, accepting, acknowledging}
use Rattle.model.specs.Leader.{Reaction, no_reaction, with_stored, refusals, closes, fails, cease, closed, marked_by, counted, with_round, counting, on_reply, reply_to, on_request}
use Rattle.model.proofs.Majorities.{majority_within}
use Rattle.model.proofs.Replicas.{accepting_keeps, step_down_keeps}
use Rattle.limits.specs.Lists.{All, nil}
use Rattle.quiet.specs.Statement.{Answered}
use Rattle.quiet.proofs.Counting.{none_refused, refusals_set}
use Rattle.quiet.proofs.Weights.{weighs, weigh}
use Rattle.quiet.proofs.Messages.{Followed, OursBody, Ours, Concerns, Awaited, here, later}
use Rattle.quiet.proofs.Rounds.{Waits, waits_among, Slot, slot_more, rest, owed, IsLeader, Amid, closed_goes}

-- ---- a mark is set

record Marked (q : ℕ) (old new : List Mark) : Type 0 where
  size : length new ≡ length old
  unrefused : refusals new ≡ 0
  own : get_or new q refused ≡ acknowledged
  kept : (x : ℕ) → get_or old x refused ≡ acknowledged → get_or new x refused ≡ acknowledged

marked : (q : ℕ) (marks : List Mark) → q < length marks → refusals marks ≡ 0 → Marked q marks (marked_by q acknowledged marks)
unfolding marked_by
marked q marks h e = go (get_or marks q refused) refl
  where
    go : (x : Mark) → get_or marks q refused ≡ x → Marked q marks (elim x as (λ _. List Mark) [ silent ↦ set marks q acknowledged | acknowledged ↦ marks | refused ↦ marks ])
    go silent d =
        record {
          size = length-set marks q acknowledged;
          unrefused = refusals_set marks q e;
          own = get_or-set_same marks q acknowledged refused h;
          kept = λ x k. elim (ℕ_discrete x q) [
            | yes i ↦ rw i (get_or-set_same marks q acknowledged refused h)
            | no i ↦ get_or-set_other marks q x acknowledged refused i ∙ k
          ];
        }
    go acknowledged d = record { size = refl; unrefused = e; own = d; kept = λ x k. k }
    go refused d = absurd (none_refused marks q e h d)

-- ---- the leader is handed an acknowledgement

-- a step of the leader whose round was `before`, with the messages ms still in flight
pub record Moves (f : Followed) (ms : List Message) (before : Option Round) (r : Reaction) : Type 0 where
  pub is_leader : IsLeader f r.server
  pub round : Option Round
  pub call : Option Call
  pub round_is : round_at r.server.volatile f.bucket ≡ round
  pub call_is : call_at r.server.volatile f.bucket ≡ call
  pub ours : All (Ours f) r.sends
  pub slot : Slot f (ms ++ r.sends) round call
  pub ended : before ≢ none → round ≡ none → Answered f.call r.answers
  pub weight : weigh r.sends + owed f (rest round) ≤ owed f (rest before)

-- m is the acknowledgement of server `m.sender`, with what it reports, and s the leader
module _ (f : Followed) (m : Message) (ms : List Message) (report : Copy) (from : m.sender < f.servers) (tells : (q : ℕ) → Concerns q m m.body → m.sender ≡ q)
    (s : Server) (is_leader : IsLeader f s) where
  abbrev now : Round → Round
  now r = counted m.sender acknowledged report r

  -- nothing changes at the leader, and m was not awaited
  still : (ro : Option Round) (co : Option Call) → round_at s.volatile f.bucket ≡ ro → call_at s.volatile f.bucket ≡ co → Slot f ms ro co →
      Moves f ms ro (no_reaction s)
  unfolding weigh
  still ro co ri ci slot =
      record {
        is_leader = is_leader;
        round = ro;
        call = co;
        round_is = ri;
        call_is = ci;
        ours = nil;
        slot = rw (append-nil ms) slot;
        ended = λ x y. absurd (x y);
        weight = omega arith;
      }

  -- m belongs to another round
  unawaited : (r : Round) → m.round ≢ r.number → (q : ℕ) → Awaited q r.number (m ∷ ms) → Awaited q r.number ms
  unawaited r d q (here x y) = absurd (d x)
  unawaited r d q (later x) = x

  -- m is counted
  module _ (r : Round) (c : Call) (call_is : call_at s.volatile f.bucket ≡ some c) (mine : c.number ≡ f.call) (w : Waits f (m ∷ ms) r) where
    marks_now : Marked m.sender r.marks (now r).marks
    unfolding counted
    marks_now = marked m.sender r.marks (omega (arith, w.marks)) w.unrefused

    now_amid : Amid f (with_round s f.bucket (now r))
    now_amid =
        record {
          is_leader = record { number = is_leader.number; stopped = is_leader.stopped; rounds = rw length-set is_leader.rounds; calls = is_leader.calls };
          call = c;
          there = call_is;
          number = mine;
        }

    still_waits : closes f.servers (now r) ≡ false → Waits f ms (now r)
    unfolding counted
    still_waits shut =
        let k = marks_now in
        record {
          election = w.election;
          marks = k.size ∙ w.marks;
          unrefused = k.unrefused;
          unclosed = shut;
          awaited = λ q h up. elim (w.awaited q h up) [ inl x ↦ inl (k.kept q x) | inr x ↦ told q x ];
        }
      where
        told : (q : ℕ) → Awaited q r.number (m ∷ ms) → (get_or (now r).marks q refused ≡ acknowledged) ⊎ Awaited q r.number ms
        told q (here x y) = inl (rw (← tells q y) marks_now.own)
        told q (later x) = inr x

    does_not_fail : fails f.servers (now r) ≡ false
    unfolding fails
    does_not_fail =
        le-ltb (f.servers - refusals (now r).marks) (majority f.servers) (omega (arith, marks_now.unrefused, majority_within f.servers (omega (arith, f.inside))))

    counting_moves : Moves f ms (some r) (counting f.servers f.leader f.bucket (now r) s)
    unfolding counting
    counting_moves = go (closes f.servers (now r)) refl
      where
        go : (t : Bool) → closes f.servers (now r) ≡ t →
            Moves f ms (some r)
            (elim t as (λ _. Reaction) [
              | true ↦ closed f.servers f.leader f.bucket (now r) (with_round s f.bucket (now r))
              | false ↦ elim (fails f.servers (now r)) [ true ↦ cease s | false ↦ no_reaction (with_round s f.bucket (now r)) ]
            ])
        go true shut =
            let g = closed_goes f (now r) now_amid in
            record {
              is_leader = g.is_leader;
              round = g.round;
              call = g.call;
              round_is = g.round_is;
              call_is = g.call_is;
              ours = g.ours;
              slot = slot_more f ms _ g.round g.call g.slot;
              ended = λ x y. g.ended y;
              weight = unfold counted rest in g.weight;
            }
        go false shut =
            rw does_not_fail
            (record {
              is_leader = now_amid.is_leader;
              round = some (now r);
              call = some c;
              round_is = get_or-set_same s.volatile.rounds f.bucket (some (now r)) none is_leader.rounds;
              call_is = call_is;
              ours = nil;
              slot = rw (append-nil ms) (mine, still_waits shut);
              ended = λ x y. let z : ◌≡◌ {A = ℕ} 0 1 = cc in absurd (omega arith);
              weight = unfold counted rest weigh in omega arith;
            })

  -- `at` is the bucket that m names
  reply_moves : (at : ℕ) → at ≡ f.bucket → (ro : Option Round) (co : Option Call) → round_at s.volatile f.bucket ≡ ro → call_at s.volatile f.bucket ≡ co →
      Slot f (m ∷ ms) ro co → m.election ≡ f.election →
      Moves f ms ro
      (elim ro as (λ _. Reaction) [
        | none ↦ no_reaction s
        | some r ↦
            elim (eqb m.election r.election) [
              | false ↦ no_reaction s
              | true ↦
                  elim (eqb m.round r.number) [ false ↦ no_reaction s | true ↦ counting f.servers f.leader at (now r) s ]
            ]
      ])
  reply_moves at same none co ri ci slot el = still none co ri ci tt
  reply_moves at same (some r) none ri ci slot el = absurd slot
  reply_moves at same (some r) (some c) ri ci (mine, w) el = rw (eq-eqb m.election r.election (el ∙ sym w.election)) (go (eqb m.round r.number) refl)
    where
      go : (t : Bool) → eqb m.round r.number ≡ t →
          Moves f ms (some r) (elim t as (λ _. Reaction) [ false ↦ no_reaction s | true ↦ counting f.servers f.leader at (now r) s ])
      go true d = subst (λ x. Moves f ms (some r) (counting f.servers f.leader x (now r) s)) (sym same) (counting_moves r c ci mine w)
      go false d = still (some r) (some c) ri ci (mine, waits_among r (λ q up. unawaited r (eqb-false m.round r.number d) q) w)

  pub on_reply_moves : (ro : Option Round) (co : Option Call) → round_at s.volatile f.bucket ≡ ro → call_at s.volatile f.bucket ≡ co → Slot f (m ∷ ms) ro co → Ours f m →
      Moves f ms ro (on_reply f.servers f.leader m acknowledged report s)
  unfolding on_reply
  on_reply_moves ro co ri ci slot o =
      let there : round_at s.volatile m.bucket ≡ ro = ap (λ x. round_at s.volatile x) o.bucket ∙ ri in
      rw (on_reply, there) (reply_moves m.bucket o.bucket ro co ri ci slot o.election)

-- ---- a replica is handed a request

-- it acknowledges, votes for the leader, and runs or not as before
pub record Replies (m : Message) (s : Server) (r : Reaction) : Type 0 where
  pub body : Body
  pub sends : r.sends ≡ reply_to m.receiver m body ∷ []
  pub acks : (q : ℕ) → m.receiver ≡ q → Concerns q (reply_to m.receiver m body) body
  pub light : weighs body ≡ 1
  pub vote : r.server.stored.vote ≡ m.election
  pub stopped : r.server.stopped ≡ s.stopped
  pub ours : (f : Followed) → m.sender ≡ f.leader → m.receiver < f.servers → OursBody f (reply_to m.receiver m body) body

acknowledging_acks : (b : ℕ) (r : Request) (st : Stored) (m : Message) →
    let body = acknowledging b r st in
    ((q : ℕ) → m.receiver ≡ q → Concerns q (reply_to m.receiver m body) body) × (weighs body ≡ 1)
    × ((f : Followed) → m.sender ≡ f.leader → m.receiver < f.servers → OursBody f (reply_to m.receiver m body) body)
unfolding acknowledging weighs
acknowledging_acks b reading st m = (λ q e. e, refl, λ f e h. (e, h))
acknowledging_acks b (writing copy) st m = (λ q e. e, refl, λ f e h. (e, h))

-- where its vote is no higher than the number of the request
pub request_replies : (m : Message) (request : Request) (s : Server) → s.stored.vote ≤ m.election → Replies m s (on_request m.receiver m request s)
unfolding on_request may_accept
request_replies m request s low =
    let st = accepting m.bucket m.election m.sender request s.stored in
    let k = step_down_keeps (with_stored s st) in
    let a = acknowledging_acks m.bucket request st m in
    rw (on_request, may_accept, le-ltb m.election s.stored.vote low)
    (record {
      body = acknowledging m.bucket request st;
      sends = refl;
      acks = a.0;
      light = a.1;
      vote = ap (λ x. x.vote) k.0 ∙ (accepting_keeps m.bucket m.election m.sender request s.stored).1;
      stopped = k.1;
      ours = a.2;
    })
