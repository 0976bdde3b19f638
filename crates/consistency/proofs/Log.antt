-- The log: what servers have ever done, kept beside the machine and only ever added to. Nothing in the machine reads it.
-- Lines are numbered in the order of the script.
use mathlib.Core.List.{List, []}
use mathlib.Core.Option.{Option}
use Prim.Native.Nat.{ℕ}
use Rattle.entries.specs.Entries.{Entry}
use Rattle.model.specs.Calls.{Words, Result}
use Rattle.model.specs.Cluster.{Version, Purpose}
use Rattle.history.specs.Members.{◌∈◌}

-- a server gave its vote under an election number, for the first time under it, to a leader
pub record Vote : Type 0 where
  pub server : ℕ
  pub election : ℕ
  pub leader : ℕ

-- a candidate had a majority of votes under an election number
pub record Win : Type 0 where
  pub election : ℕ
  pub leader : ℕ
  pub members : List ℕ
  pub line : ℕ

-- a leader broadcast the write of a version of a bucket, made from a parent version; `call` is the call whose own write it
-- is, none for a recovery write
pub record Write : Type 0 where
  pub bucket : ℕ
  pub at : Version
  pub parent : Version
  pub table : List Entry
  pub call : Option ℕ
  pub line : ℕ

-- a server acknowledged the write of a version, stored or not
pub record Accept : Type 0 where
  pub server : ℕ
  pub bucket : ℕ
  pub at : Version

-- a server acknowledged a reading round while it stored a version
pub record Report : Type 0 where
  pub server : ℕ
  pub bucket : ℕ
  pub election : ℕ
  pub round : ℕ
  pub at : Version

-- a leader opened a round for a call; `at` is the version written, or the one that the leader's copy has in a checking round
pub record Opened : Type 0 where
  pub leader : ℕ
  pub election : ℕ
  pub number : ℕ
  pub bucket : ℕ
  pub purpose : Purpose
  pub at : Version
  pub call : ℕ
  pub line : ℕ

-- a checking round that answered its call: who confirmed it
pub record Check : Type 0 where
  pub bucket : ℕ
  pub at : Version
  pub call : ℕ
  pub line : ℕ
  pub members : List ℕ

-- a call was taken, and ended
pub record Begun : Type 0 where
  pub number : ℕ
  pub server : ℕ
  pub bucket : ℕ
  pub words : Words
  pub line : ℕ

pub record Ended : Type 0 where
  pub number : ℕ
  pub result : Result
  pub line : ℕ

pub record Log : Type 0 where
  pub votes : List Vote
  pub wins : List Win
  pub writes : List Write
  pub accepts : List Accept
  pub reports : List Report
  pub rounds : List Opened
  pub checks : List Check
  pub begins : List Begun
  pub ends : List Ended

abbrev pub empty_log : Log
empty_log =
    record { votes = []; wins = []; writes = []; accepts = []; reports = []; rounds = []; checks = []; begins = []; ends = [] }

-- what one log has, the other has
infix 4 ◌⊆◌
abbrev pub ◌⊆◌ : {A : Type 0} → List A → List A → Type 0
◌⊆◌ {A} k l = (x : A) → x ∈ k → x ∈ l

pub record Grows (a b : Log) : Type 0 where
  pub votes : a.votes ⊆ b.votes
  pub wins : a.wins ⊆ b.wins
  pub writes : a.writes ⊆ b.writes
  pub accepts : a.accepts ⊆ b.accepts
  pub reports : a.reports ⊆ b.reports
  pub rounds : a.rounds ⊆ b.rounds
  pub checks : a.checks ⊆ b.checks
  pub begins : a.begins ⊆ b.begins
  pub ends : a.ends ⊆ b.ends
