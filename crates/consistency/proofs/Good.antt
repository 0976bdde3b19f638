-- A cluster agrees with a log: the log's facts hold, and every server and every message in flight agrees with it. Every accepted
-- line keeps that.
use mathlib.Core.List.{List}
use Prim.Native.Nat.{ℕ, ◌<◌}
use native.Mathlib.Decide.{ℕ_discrete}
use lib.ListN.{length, get_or, set, length-set}
use lib.Seq.{get_or-set_same, get_or-set_other}
use Rattle.model.specs.Cluster.{Server, Message, Cluster, fresh_server}
use Rattle.model.specs.Leader.{Reaction}
use Rattle.model.specs.Lines.{server_at, after_step}
use Rattle.history.specs.Members.{◌∈◌}
use Rattle.history.proofs.MemberLaws.{each_append}
use Rattle.consistency.proofs.Log.{Log, ◌⊆◌}
use Rattle.consistency.proofs.Claims.{MessageOk}
use Rattle.consistency.proofs.Invariant.{LogOk, AnyServerOk}
use Rattle.consistency.proofs.Growth.{message_grows, Adds, adds_trans}
use Rattle.consistency.proofs.Others.{server_stays}
use Rattle.consistency.proofs.Acts.{KeptAny}

-- `now` is the number of the present line
pub record Good (now : ℕ) (c : Cluster) (log : Log) : Type 0 where
  pub facts : LogOk (length c.servers) now c.calls log
  pub servers : (p : ℕ) → p < length c.servers → AnyServerOk (length c.servers) c.buckets log p (server_at c p)
  pub messages : (m : Message) → m ∈ c.messages → MessageOk c.buckets log m

module _ {now taken : ℕ} {c : Cluster} {log base : Log} (good : Good now c log)
    (p : ℕ) (inside : p < length c.servers) {r : Reaction} (before : Adds p log base)
    (kept : KeptAny (length c.servers) c.buckets now taken p base r) where
  abbrev adds : Adds p log kept.next
  adds = adds_trans before kept.adds

  abbrev after : List Server
  after = set c.servers p r.server

  stepped_server : (q : ℕ) → q < length c.servers → AnyServerOk (length c.servers) c.buckets kept.next q (get_or after q (fresh_server 0 0))
  stepped_server q h =
      elim (ℕ_discrete q p) [
        | yes e ↦ rw (e, get_or-set_same c.servers p r.server (fresh_server 0 0) inside) kept.server
        | no d ↦ rw (get_or-set_other c.servers p q r.server (fresh_server 0 0) d) (server_stays (length c.servers) d adds kept.facts (good.servers q h))
      ]

  -- server p's step, with the messages that stay
  pub stepped_good : (still : List Message) → still ⊆ c.messages → Good now (after_step c p still taken r) kept.next
  stepped_good still sub =
      record {
        facts = rw length-set kept.facts;
        servers = rw length-set stepped_server;
        messages = each_append still (λ m i. message_grows adds.grows (good.messages m (sub m i))) kept.sends;
      }
