-- What is within limits is within greater ones.
use mathlib.Core.Option.{Option}
use Prim.Native.Nat.{ℕ, ◌+◌, ◌≤◌}
use native.Mathlib.Omega.{arith}
use Rattle.model.specs.Cluster.{Copy, Stored, Round, Call, Volatile, Server, Body, please_vote, ack_vote, nack_vote, replica_write, ack_write, nack_write, replica_read, ack_read, nack_read, Message}
use Rattle.limits.specs.Measures.{Limits, limits_after, CopyWithin, StoredWithin, CallWithin, RoundWithin, SlotWithin, idle, busy, FrameWithin, ServerWithin, BodyWithin, MessageWithin}
use Rattle.limits.proofs.Lists.{all_imply}

-- one above a number within the limits is within them after another line, unless it is above the greatest
pub one_above_within : (top k e : ℕ) → e ≤ (limits_after top k).elections → e + 1 ≤ top → e + 1 ≤ (limits_after top (k + 1)).elections
one_above_within top k e h l = omega arith

-- ---- everything survives greater limits

-- m is no less than l, and leaves p rounds where l leaves q
pub record Grows (l : Limits) (q : ℕ) (m : Limits) (p : ℕ) : Type 0 where
  pub elections : l.elections ≤ m.elections
  pub rounds : l.rounds ≤ m.rounds
  pub slack : l.rounds + p ≤ m.rounds + q
  pub calls : l.calls ≤ m.calls

-- fewer rounds left under the same limits
pub fewer : (l : Limits) (q p : ℕ) → p ≤ q → Grows l q l p
fewer l q p h = omega arith

-- another line, with at most four rounds
pub next_line : (top k q : ℕ) → q ≤ 4 → Grows (limits_after top k) 0 (limits_after top (k + 1)) q
next_line top k q h = omega arith

-- a greater last election number
pub wider : (top more k : ℕ) → top ≤ more → Grows (limits_after top k) 0 (limits_after more k) 0
wider top more k h = omega arith

module _ {l : Limits} {q : ℕ} {m : Limits} {p : ℕ} (g : Grows l q m p) where
  pub copy_grows : (c : Copy) → CopyWithin l q c → CopyWithin m p c
  copy_grows c w = record { election = omega arith; counter = omega arith; unwritten = w.unwritten; written = w.written; empty = w.empty; fitting = w.fitting }

  pub stored_grows : {n b : ℕ} {st : Stored} → StoredWithin n b l q st → StoredWithin n b m p st
  stored_grows w = record { number = omega arith; vote = omega arith; leader = w.leader; size = w.size; copies = all_imply copy_grows w.copies }

  pub frame_grows : {n b number : ℕ} {v : Volatile} → FrameWithin n b l q number v → FrameWithin n b m p number v
  frame_grows w = record { votes = w.votes; rounds = w.rounds; calls = w.calls; last_round = omega arith; standing = w.standing }

  pub call_grows : {b i : ℕ} {c : Call} → CallWithin b l i q c → CallWithin b m i p c
  call_grows w = record { first = w.first; last = omega arith; rounds = omega arith; sizes = w.sizes; bucket = w.bucket }

  same_slack : Grows l 0 m 0
  same_slack = omega arith

module _ {l : Limits} {m : Limits} (g : Grows l 0 m 0) where
  pub round_grows : {n number : ℕ} {r : Round} → RoundWithin n l number r → RoundWithin n m number r
  round_grows w =
      record {
        low = w.low;
        high = omega arith;
        elected = w.elected;
        election = omega arith;
        present = w.present;
        marks = w.marks;
        best = copy_grows g _ w.best;
        unread = w.unread;
      }

  body_grows : (x : Message) (body : Body) → BodyWithin l x body → BodyWithin m x body
  body_grows x please_vote w = w
  body_grows x ack_vote w = w
  body_grows x nack_vote w = w
  body_grows x (replica_write c) w = (omega arith, w.1, copy_grows g _ w.2)
  body_grows x ack_write w = omega arith
  body_grows x nack_write w = omega arith
  body_grows x replica_read w = omega arith
  body_grows x (ack_read c) w = (omega arith, copy_grows g _ w.1)
  body_grows x nack_read w = omega arith

  pub message_grows : {n b : ℕ} (x : Message) → MessageWithin n b l x → MessageWithin n b m x
  message_grows x w =
      record {
        sender = w.sender;
        receiver = w.receiver;
        apart = w.apart;
        bucket = w.bucket;
        elected = w.elected;
        election = omega arith;
        body = body_grows x x.body w.body;
      }

pub slot_grows : {n b : ℕ} {l : Limits} {q : ℕ} {m : Limits} {p : ℕ} → Grows l q m p → {number i : ℕ} {r : Option Round} {c : Option Call} →
    SlotWithin n b l q number i r c → SlotWithin n b m p number i r c
slot_grows g idle = idle
slot_grows g (busy r c) = busy (round_grows (same_slack g) r) (call_grows g c)

pub server_grows : {n b : ℕ} {l : Limits} {q : ℕ} {m : Limits} {p : ℕ} → Grows l q m p → (s : Server) → ServerWithin n b l q s →
    ServerWithin n b m p s
server_grows g s w =
    record {
      stored = stored_grows g w.stored;
      frame = frame_grows g w.frame;
      slots = λ i h. slot_grows g (w.slots i h);
    }
