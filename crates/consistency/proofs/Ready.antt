-- A leader in the middle of a step for the call c on bucket b: everything agrees with the log, but nothing is said yet of a round
-- on that bucket.
use mathlib.Core.Path.{◌≡◌, subst}
use mathlib.Core.Logic.{◌≢◌}
use mathlib.Core.Option.{some}
use Prim.Native.Nat.{ℕ, ◌≤◌, ◌<◌}
use native.Mathlib.Decide.{ℕ_discrete}
use Rattle.model.specs.Cluster.{copy_at, leading, Round, Call, round_at, call_at, Server}
use Rattle.consistency.proofs.Log.{Log, Grows, ◌⊆◌}
use Rattle.consistency.proofs.Claims.{Won}
use Rattle.consistency.proofs.Growth.{won_grows}
use Rattle.consistency.proofs.Ceasing.{stored_grows}
use Rattle.consistency.proofs.Invariant.{StoredOk, CallOk, RoundOk, BucketOk, CopyNewest, Numbered, RoleOk, Shape, ServerOk}

-- a leader, whatever its rounds and calls
pub record Leads (n buckets : ℕ) (log : Log) (p : ℕ) (s : Server) : Type 0 where
  pub shape : Shape n buckets s
  pub stored : StoredOk log p s.stored
  pub numbered : Numbered log p s.stored s.volatile
  pub role : s.volatile.role ≡ leading
  pub won : Won log s.stored.number p
  pub vote : s.stored.vote ≡ s.stored.number
  pub positive : 1 ≤ s.stored.number
  pub newest : (k : ℕ) → CopyNewest log s.stored.number k (copy_at s.stored k)

abbrev pub Bucket : ℕ → Log → ℕ → Server → ℕ → Type 0
Bucket n log p s k = BucketOk n log p s.stored.number k (copy_at s.stored k) (round_at s.volatile k) (call_at s.volatile k)

pub record Ready (n buckets : ℕ) (log : Log) (p b : ℕ) (c : Call) (s : Server) : Type 0 where
  pub leads : Leads n buckets log p s
  pub elsewhere : (k : ℕ) → k ≢ b → Bucket n log p s k
  pub inside : b < buckets
  pub here : call_at s.volatile b ≡ some c
  pub call : CallOk log p b c

-- a leader stays one in a log that got nothing but checks, calls and ends of calls
pub leads_carried : {n buckets : ℕ} {a b : Log} {p : ℕ} {s : Server} → Grows a b
    → b.votes ⊆ a.votes → b.wins ⊆ a.wins → b.writes ⊆ a.writes → b.accepts ⊆ a.accepts → b.reports ⊆ a.reports → b.rounds ⊆ a.rounds
    → Leads n buckets a p s → Leads n buckets b p s
leads_carried g votes wins writes accepts reports rounds h =
    record {
      shape = h.shape;
      stored = stored_grows g votes wins accepts reports h.stored;
      numbered = λ o m. h.numbered o (rounds o m);
      role = h.role;
      won = won_grows g h.won;
      vote = h.vote;
      positive = h.positive;
      newest = λ j.
          record {
            recovered = λ i w m. (h.newest j).recovered i w (writes w m);
            unrecovered = λ i w m. (h.newest j).unrecovered i w (writes w m);
          };
    }

-- with every bucket in agreement, the server is
pub leader_agrees : {n buckets : ℕ} {log : Log} {p : ℕ} {s : Server} → Leads n buckets log p s → ((k : ℕ) → Bucket n log p s k) → ServerOk n buckets log p s
leader_agrees {n} {buckets} {log} {p} {s} h all =
    record {
      shape = h.shape;
      stored = h.stored;
      role = rw h.role (h.won, h.vote, h.positive, h.newest, all, h.numbered);
    }

-- what holds of b and of every other number holds of all
pub each_place : (P : ℕ → Type 0) (b : ℕ) → ((k : ℕ) → k ≢ b → P k) → P b → (k : ℕ) → P k
each_place P b others this k = elim (ℕ_discrete k b) [ yes e ↦ rw e this | no d ↦ others k d ]

-- the open round on bucket b completes it
pub round_agrees : {n buckets : ℕ} {log : Log} {p b : ℕ} {c : Call} {s : Server} → Ready n buckets log p b c s
    → (r : Round) → round_at s.volatile b ≡ some r → RoundOk n log p s.stored.number b (copy_at s.stored b) r c → ServerOk n buckets log p s
round_agrees {n} {buckets} {log} {p} {b} {c} {s} h r e ok =
    leader_agrees h.leads (each_place (Bucket n log p s) b h.elsewhere (rw (e, h.here) ok))

-- and a leader that agrees with the log is one whose every bucket does
pub leader_of : {n buckets : ℕ} {log : Log} {p : ℕ} {s : Server} → ServerOk n buckets log p s → s.volatile.role ≡ leading → Leads n buckets log p s × ((k : ℕ) → Bucket n log p s k)
leader_of {n} {buckets} {log} {p} {s} h e =
    let r = subst (RoleOk n log p s.stored s.volatile) e h.role in
    (record { shape = h.shape; stored = h.stored; numbered = r.5; role = e; won = r.0; vote = r.1; positive = r.2; newest = r.3 }, r.4)
