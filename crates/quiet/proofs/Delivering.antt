-- A cluster in the midst of a quiet call, and what the delivery of any of its messages makes of it.
use mathlib.Core.Path.{◌≡◌, refl, sym, ap, ◌∙◌}
use mathlib.Core.Logic.{◌≢◌}
use mathlib.Core.List.{List, [], ◌∷◌, ◌++◌}
use mathlib.Core.Bool.{Bool, true, false}
use mathlib.Core.Option.{Option, none}
use Prim.Native.Nat.{ℕ, ◌+◌, ◌≤◌, ◌<◌}
use native.Mathlib.Omega.{arith}
use native.Mathlib.Decide.{ℕ_discrete}
use lib.ListN.{length, get_or, set, length-set}
use lib.Seq.{get_or-set_same, get_or-set_other}
use Rattle.model.specs.Measures.{majority}
use Rattle.model.specs.Cluster.{Copy, fresh_copy, acknowledged, refused, Round, Call, Server, Body, please_vote, ack_vote, nack_vote, replica_write, ack_write, nack_write, replica_read, ack_read, nack_read, Message, Cluster, fresh_server, round_at, call_at}
use Rattle.model.specs.Replica.{Request, reading, writing}
use Rattle.model.specs.Leader.{Reaction, reply_to, on_please_vote, on_ack_vote, no_reaction, on_request, on_reply, handle}
use Rattle.model.specs.Lines.{server_at, stopped_at, Work, after_step, lost_message, delivered_to, delivery}
use Rattle.limits.specs.Lists.{All, nil, cons}
use Rattle.limits.proofs.Lists.{all_append}
use Rattle.quiet.specs.Statement.{running, Answered}
use Rattle.quiet.proofs.Counting.{running_set}
use Rattle.quiet.proofs.Weights.{weighs, weigh, weigh_append, weighs_some}
use Rattle.quiet.proofs.Messages.{Followed, OursBody, Ours, Concerns, Awaited, here, later, awaited_left, awaited_right}
use Rattle.quiet.proofs.Rounds.{Slot, slot_among, rest, owed, IsLeader}
use Rattle.quiet.proofs.Handing.{Moves, on_reply_moves, Replies, request_replies}

-- the call is open or over, all messages are its own, and no other running server's vote is above the leader's number
pub record Going (f : Followed) (c : Cluster) : Type 0 where
  pub size : length c.servers ≡ f.servers
  pub flags : (q : ℕ) → stopped_at c q ≡ f.stops q
  pub votes : (q : ℕ) → q < f.servers → q ≢ f.leader → f.stops q ≡ false → (server_at c q).stored.vote ≤ f.election
  pub most : majority f.servers ≤ running c.servers
  pub is_leader : IsLeader f (server_at c f.leader)
  pub round : Option Round
  pub call : Option Call
  pub round_is : round_at (server_at c f.leader).volatile f.bucket ≡ round
  pub call_is : call_at (server_at c f.leader).volatile f.bucket ≡ call
  pub ours : All (Ours f) c.messages
  pub slot : Slot f c.messages round call

-- the deliveries that it may still take
abbrev pub potential : {f : Followed} {c : Cluster} → Going f c → ℕ
potential {f} {c} g = weigh c.messages + owed f (rest g.round)

-- a line that leaves fewer than `most` of them
pub record Onward (f : Followed) (c : Cluster) (before : Option Round) (most : ℕ) (w : Work) : Type 0 where
  pub going : Going f w.cluster
  pub less : potential going < most
  pub accepted : w.cluster.accepted ≡ c.accepted + 1
  pub ended : before ≢ none → going.round ≡ none → Answered f.call w.answers

-- ---- servers after a step of server x

pub flags_set : (l : List Server) (x : ℕ) (s : Server) → x < length l → (d : Server) → s.stopped ≡ (get_or l x d).stopped →
    (q : ℕ) → (get_or (set l x s) q d).stopped ≡ (get_or l q d).stopped
flags_set l x s there d e q = go (ℕ_discrete q x)
  where
    go : Dec (q ≡ x) → (get_or (set l x s) q d).stopped ≡ (get_or l q d).stopped
    go (yes i) = rw i (ap (λ y. y.stopped) (get_or-set_same l x s d there) ∙ e)
    go (no i) = ap (λ y. y.stopped) (get_or-set_other l x q s d i)

-- ---- message m is taken out of the list, and ms stay

module _ (f : Followed) (c : Cluster) (g : Going f c) (m : Message) (ms : List Message) (o : Ours f m) (os : All (Ours f) ms) (slot : Slot f (m ∷ ms) g.round g.call) where
  abbrev most : ℕ
  most = weigh (m ∷ ms) + owed f (rest g.round)

  -- ---- it is lost at a stopped server

  not_awaited : f.stops m.receiver ≡ true → (q k : ℕ) → f.stops q ≡ false → Awaited q k (m ∷ ms) → Awaited q k ms
  not_awaited halted q k up a = tail a
    where
      clash : {A : Type 0} → f.stops m.receiver ≡ false → A
      clash e = let z : ◌≡◌ {A = ℕ} 0 1 = cc in absurd (omega arith)

      not_this : (b : Body) → OursBody f m b → Concerns q m b → ⊥
      not_this (replica_write copy) h x = clash (rw x up)
      not_this replica_read h x = clash (rw x up)
      not_this ack_write h x = clash (rw h.0 f.runs)
      not_this (ack_read copy) h x = clash (rw h.0 f.runs)
      not_this please_vote h x = h
      not_this ack_vote h x = h
      not_this nack_vote h x = h
      not_this nack_write h x = h
      not_this nack_read h x = h

      tail : Awaited q k (m ∷ ms) → Awaited q k ms
      tail (here x y) = absurd (not_this m.body o.kind y)
      tail (later x) = x

  lost_onward : f.stops m.receiver ≡ true → Onward f c g.round most (lost_message c ms 0)
  unfolding weigh
  lost_onward halted =
      record {
        going =
            record {
              size = g.size;
              flags = g.flags;
              votes = g.votes;
              most = g.most;
              is_leader = g.is_leader;
              round = g.round;
              call = g.call;
              round_is = g.round_is;
              call_is = g.call_is;
              ours = os;
              slot = slot_among f g.round g.call (not_awaited halted) slot;
            };
        less = omega (arith, weighs_some m.body);
        accepted = refl;
        ended = λ x y. absurd (x y);
      }

  -- ---- it is a request, and is acknowledged

  -- the acknowledgement r is awaited in its place
  answered_for : (r : Message) → r.round ≡ m.round → ((q : ℕ) → m.receiver ≡ q → Concerns q r r.body) → ((q : ℕ) → Concerns q m m.body → m.receiver ≡ q) →
      (q k : ℕ) → Awaited q k (m ∷ ms) → Awaited q k (ms ++ (r ∷ []))
  answered_for r same acks asks q k (here u v) = awaited_right ms (here (same ∙ u) (acks q (asks q v)))
  answered_for r same acks asks q k (later u) = awaited_left (r ∷ []) u

  module _ (request : Request) (from : m.sender ≡ f.leader) (far : m.receiver < f.servers) (apart : m.receiver ≢ f.leader) (up : f.stops m.receiver ≡ false) where
    abbrev x : ℕ
    x = m.receiver

    abbrev new : Server
    new = (on_request x m request (server_at c x)).server

    replies : Replies m (server_at c x) (on_request x m request (server_at c x))
    replies = request_replies m request (server_at c x) (omega (arith, g.votes x far apart up, o.election))

    votes_after : (q : ℕ) → q < f.servers → q ≢ f.leader → f.stops q ≡ false → (get_or (set c.servers x new) q (fresh_server 0 0)).stored.vote ≤ f.election
    votes_after q h k runs = go (ℕ_discrete q x) replies.vote
      where
        go : Dec (q ≡ x) → new.stored.vote ≡ m.election → (get_or (set c.servers x new) q (fresh_server 0 0)).stored.vote ≤ f.election
        go (yes y) v = rw (y, get_or-set_same c.servers x new (fresh_server 0 0) (omega (arith, g.size, far))) (omega (arith, v, o.election))
        go (no y) v = rw (get_or-set_other c.servers x q new (fresh_server 0 0) y) (g.votes q h k runs)

    asked_onward : weighs m.body ≡ 2 → ((q : ℕ) → Concerns q m m.body → x ≡ q) →
        Onward f c g.round most (delivered_to c m ms 0 (on_request x m request (server_at c x)))
    unfolding weigh
    asked_onward heavy asks =
        let r = replies in
        let there : x < length c.servers = omega (arith, g.size) in
        let d = fresh_server 0 0 in
        let same : get_or (set c.servers x new) f.leader d ≡ server_at c f.leader = get_or-set_other c.servers x f.leader new d (λ k. apart (sym k)) in
        let answer = reply_to x m r.body in
        record {
          going =
              record {
                size = length-set c.servers x new ∙ g.size;
                flags = λ q. flags_set c.servers x new there d r.stopped q ∙ g.flags q;
                votes = votes_after;
                most = rw (running_set c.servers x new d r.stopped) g.most;
                is_leader = rw same g.is_leader;
                round = g.round;
                call = g.call;
                round_is = ap (λ y. round_at y.volatile f.bucket) same ∙ g.round_is;
                call_is = ap (λ y. call_at y.volatile f.bucket) same ∙ g.call_is;
                ours = rw r.sends (all_append os (cons (record { bucket = o.bucket; election = o.election; kind = r.ours f from far }) nil));
                slot = rw r.sends (slot_among f g.round g.call (λ q k runs. answered_for answer refl r.acks asks q k) slot);
              };
          less = rw r.sends (omega (arith, weigh_append ms (answer ∷ []), r.light, heavy));
          accepted = refl;
          ended = λ y z. absurd (y z);
        }

  -- ---- it is an acknowledgement, and is counted

  told_onward : (report : Copy) → m.receiver ≡ f.leader → m.sender < f.servers → weighs m.body ≡ 1 → ((q : ℕ) → Concerns q m m.body → m.sender ≡ q) →
      Onward f c g.round most (delivered_to c m ms 0 (on_reply f.servers m.receiver m acknowledged report (server_at c m.receiver)))
  unfolding weigh on_reply
  told_onward report to from light tells =
      rw to (told (on_reply_moves f m ms report from tells (server_at c f.leader) g.is_leader g.round g.call g.round_is g.call_is slot o))
    where
      told : {r : Reaction} → Moves f ms g.round r →
          Onward f c g.round most (record { cluster = after_step c f.leader ms c.calls r; sent = length r.sends; copied = 0; delivered = 1; lost = 0; answers = r.answers })
      told {r} v =
          let d = fresh_server 0 0 in
          let p = f.leader in
          let there : p < length c.servers = omega (arith, g.size, f.inside) in
          let same : get_or (set c.servers p r.server) p d ≡ r.server = get_or-set_same c.servers p r.server d there in
          let as_before : r.server.stopped ≡ (server_at c p).stopped = v.is_leader.stopped ∙ sym (g.flags p) in
          record {
            going =
                record {
                  size = length-set c.servers p r.server ∙ g.size;
                  flags = λ q. flags_set c.servers p r.server there d as_before q ∙ g.flags q;
                  votes = λ q h k runs. rw (get_or-set_other c.servers p q r.server d k) (g.votes q h k runs);
                  most = rw (running_set c.servers p r.server d as_before) g.most;
                  is_leader = rw same v.is_leader;
                  round = v.round;
                  call = v.call;
                  round_is = ap (λ y. round_at y.volatile f.bucket) same ∙ v.round_is;
                  call_is = ap (λ y. call_at y.volatile f.bucket) same ∙ v.call_is;
                  ours = all_append os v.ours;
                  slot = v.slot;
                };
            less = omega (arith, weigh_append ms r.sends, v.weight, light);
            accepted = refl;
            ended = v.ended;
          }

  -- ---- whatever it is

  pub delivered_onward : Onward f c g.round most (delivery c m ms 0)
  unfolding delivery
  delivered_onward = rw (delivery, g.flags m.receiver) (go (f.stops m.receiver) refl)
    where
      handed : (b : Body) → m.body ≡ b → OursBody f m b → f.stops m.receiver ≡ false →
          Onward f c g.round most
          (delivered_to c m ms 0
          (elim b as (λ _. Reaction) [
            | please_vote ↦ on_please_vote m.receiver m (server_at c m.receiver)
            | ack_vote ↦ on_ack_vote f.servers m.sender m.election (server_at c m.receiver)
            | nack_vote ↦ no_reaction (server_at c m.receiver)
            | replica_write copy ↦ on_request m.receiver m (writing copy) (server_at c m.receiver)
            | ack_write ↦ on_reply f.servers m.receiver m acknowledged fresh_copy (server_at c m.receiver)
            | nack_write ↦ on_reply f.servers m.receiver m refused fresh_copy (server_at c m.receiver)
            | replica_read ↦ on_request m.receiver m reading (server_at c m.receiver)
            | ack_read copy ↦ on_reply f.servers m.receiver m acknowledged copy (server_at c m.receiver)
            | nack_read ↦ on_reply f.servers m.receiver m refused fresh_copy (server_at c m.receiver)
          ]))
      handed (replica_write copy) b k up = asked_onward (writing copy) k.0 k.1 k.2 up (unfold weighs in rw b refl) (rw b (λ q y. y))
      handed replica_read b k up = asked_onward reading k.0 k.1 k.2 up (unfold weighs in rw b refl) (rw b (λ q y. y))
      handed ack_write b k up = told_onward fresh_copy k.0 k.1 (unfold weighs in rw b refl) (rw b (λ q y. y))
      handed (ack_read copy) b k up = told_onward copy k.0 k.1 (unfold weighs in rw b refl) (rw b (λ q y. y))
      handed please_vote b k up = absurd k
      handed ack_vote b k up = absurd k
      handed nack_vote b k up = absurd k
      handed nack_write b k up = absurd k
      handed nack_read b k up = absurd k

      go : (t : Bool) → f.stops m.receiver ≡ t →
          Onward f c g.round most (elim t as (λ _. Work) [ true ↦ lost_message c ms 0 | false ↦ delivered_to c m ms 0 (handle (length c.servers) m.receiver m (server_at c m.receiver)) ])
      go true halted = lost_onward halted
      go false up = rw g.size (unfold handle in handed m.body refl o.kind up)
