-- What can be claimed of a log, now and ever after: each claim here survives whatever is added to the log. A message in flight
-- claims nothing else, so a message that is lost, copied or late does no harm.
use mathlib.Core.Path.{◌≡◌}
use mathlib.Core.Logic.{◌⊎◌}
use mathlib.Core.List.{List, []}
use mathlib.Core.Bool.{Bool, true, false}
use Prim.Native.Nat.{ℕ, ◌≤◌, ◌<◌}
use Rattle.entries.specs.Entries.{Entry}
use Rattle.model.specs.Cluster.{Version, version, Purpose, recovery_read, recovery_write, check, own_write, Body, please_vote, ack_vote, nack_vote, replica_write, ack_write, nack_write, replica_read, ack_read, nack_read, Message}
use Rattle.history.specs.Members.{◌∈◌}
use Rattle.consistency.proofs.Majorities.{MajorityOf}
use Rattle.consistency.proofs.Log.{Win, Write, Opened, Log}

-- p won the election e
pub record Won (log : Log) (e p : ℕ) : Type 0 where
  pub win : Win
  pub had : win ∈ log.wins
  pub election : win.election ≡ e
  pub leader : win.leader ≡ p

-- version x of bucket b holds table t: the initial version the empty table, any other what was written
pub data Holds (log : Log) (b : ℕ) (x : Version) (t : List Entry) : Type 0 where
  first : x ≡ version 0 0 → t ≡ [] → Holds log b x t
  later : (w : Write) → w ∈ log.writes → w.bucket ≡ b → w.at ≡ x → w.table ≡ t → Holds log b x t

-- a majority of n servers accepted version x of bucket b; the initial version counts as chosen
pub data Chosen (n : ℕ) (log : Log) (b : ℕ) (x : Version) : Type 0 where
  first : x ≡ version 0 0 → Chosen n log b x
  quorum :
      (l : List ℕ) → MajorityOf n l →
      ((q : ℕ) → q ∈ l → record { server = q; bucket = b; at = x } ∈ log.accepts) →
      Chosen n log b x

-- whether a round reads or writes
abbrev pub writing : Purpose → Bool
writing recovery_read = false
writing recovery_write = true
writing check = false
writing own_write = true

-- p opened round k under e on bucket b, a writing one or a reading one, at version x
pub record RoundOf (log : Log) (p e k b : ℕ) (writes : Bool) (x : Version) : Type 0 where
  pub opened : Opened
  pub had : opened ∈ log.rounds
  pub leader : opened.leader ≡ p
  pub election : opened.election ≡ e
  pub number : opened.number ≡ k
  pub bucket : opened.bucket ≡ b
  pub kind : writing opened.purpose ≡ writes
  pub at : opened.at ≡ x

-- server q acknowledged reading round k under e on bucket b while it stored x
abbrev pub Reported : Log → ℕ → ℕ → ℕ → ℕ → Version → Type 0
Reported log q b e k x = record { server = q; bucket = b; election = e; round = k; at = x } ∈ log.reports

abbrev pub Accepted : Log → ℕ → ℕ → Version → Type 0
Accepted log q b x = record { server = q; bucket = b; at = x } ∈ log.accepts

-- what a message claims, in a cluster of so many buckets
abbrev pub BodyOk : ℕ → Log → Message → Body → Type 0
BodyOk buckets log m please_vote = Unit {0}
BodyOk buckets log m ack_vote =
    (record { server = m.sender; election = m.election; leader = m.receiver } ∈ log.votes) ⊎ Won log m.election m.receiver
BodyOk buckets log m nack_vote = Unit {0}
BodyOk buckets log m (replica_write c) =
    Won log m.election m.sender
    × (c.version.election ≡ m.election)
    × (w : Write)
    × (w ∈ log.writes)
    × (w.bucket ≡ m.bucket)
    × (w.at ≡ c.version)
    × (w.table ≡ c.table)
    × RoundOf log m.sender m.election m.round m.bucket true c.version
    × (m.bucket < buckets)
BodyOk buckets log m ack_write =
    (x : Version) × RoundOf log m.receiver m.election m.round m.bucket true x × Accepted log m.sender m.bucket x
BodyOk buckets log m nack_write = Unit {0}
BodyOk buckets log m replica_read =
    Won log m.election m.sender × (x : Version) × RoundOf log m.sender m.election m.round m.bucket false x
BodyOk buckets log m (ack_read c) =
    (x : Version)
    × RoundOf log m.receiver m.election m.round m.bucket false x
    × Reported log m.sender m.bucket m.election m.round c.version
    × Holds log m.bucket c.version c.table
BodyOk buckets log m nack_read = Unit {0}

-- messages go to another server, under a number that was reached
pub record MessageOk (buckets : ℕ) (log : Log) (m : Message) : Type 0 where
  pub apart : m.sender ≡ m.receiver → ⊥
  pub positive : 1 ≤ m.election
  pub claim : BodyOk buckets log m m.body
