-- What a cluster holds: servers with their copies, rounds and calls, and the messages in flight.
use Rattle.std.specs.Prelude.{List, [], Bool, true, false, ℕ, ltb, eqb, replicate, get_or}
use Rattle.std.proofs.Math.Option.{Option, none}
use Rattle.entries.specs.Entries.{Entry}
use Rattle.model.specs.Calls.{Words}

-- ---- versions: an election number and a counter

pub record Version : Type 0 where
  pub election : ℕ
  pub counter : ℕ

abbrev pub version : ℕ → ℕ → Version
version e k = record { election = e; counter = k }

-- whether v is above w: the number decides first, then the counter
unfoldable pub above : Version → Version → Bool
above v w =
    elim (eqb v.election w.election) [ true ↦ ltb w.counter v.counter | false ↦ ltb w.election v.election ]

-- ---- what a server stores

-- a server's copy of a bucket
pub record Copy : Type 0 where
  pub version : Version
  pub table : List Entry

abbrev pub copy_of : Version → List Entry → Copy
copy_of v t = record { version = v; table = t }

-- its election number; its vote, the number last voted under; the leader that the vote went to, which means nothing while
-- the vote is 0; its copies by bucket
pub record Stored : Type 0 where
  pub number : ℕ
  pub vote : ℕ
  pub leader : ℕ
  pub copies : List Copy

-- ---- role, rounds and calls: a stopped server keeps them, unused, and a start forgets them

pub data Role : Type 0 where
  follower : Role
  candidate : Role
  leading : Role

-- what a round is made for, in the order in which a call makes them
pub data Purpose : Type 0 where
  recovery_read : Purpose
  recovery_write : Purpose
  check : Purpose
  own_write : Purpose

-- a server's reply to a round, if any
pub data Mark : Type 0 where
  silent : Mark
  acknowledged : Mark
  refused : Mark

-- an open round: its number, the election number it is made under, what it is made for, one mark for each server, and
-- the copy with the greatest version that was reported to a recovery read
pub record Round : Type 0 where
  pub number : ℕ
  pub election : ℕ
  pub purpose : Purpose
  pub marks : List Mark
  pub best : Copy

-- an open call: its number, its words, the rounds made for it, and whether its own write was sent
pub record Call : Type 0 where
  pub number : ℕ
  pub words : Words
  pub rounds : ℕ
  pub sent : Bool

-- role, the votes had as a candidate, the number of the last round, and by bucket the open rounds and calls
pub record Volatile : Type 0 where
  pub role : Role
  pub votes : List Bool
  pub last_round : ℕ
  pub rounds : List (Option Round)
  pub calls : List (Option Call)

pub record Server : Type 0 where
  pub stored : Stored
  pub volatile : Volatile
  pub stopped : Bool

-- ---- messages

-- the nine kinds of datagram (RULES, Datagrams 1), with the copy that two of them carry
pub data Body : Type 0 where
  please_vote : Body
  ack_vote : Body
  nack_vote : Body
  replica_write : Copy → Body
  ack_write : Body
  nack_write : Body
  replica_read : Body
  ack_read : Copy → Body
  nack_read : Body

unfoldable pub kind_number : Body → ℕ
kind_number please_vote = 1
kind_number ack_vote = 2
kind_number nack_vote = 3
kind_number (replica_write c) = 4
kind_number ack_write = 5
kind_number nack_write = 6
kind_number replica_read = 7
kind_number (ack_read c) = 8
kind_number nack_read = 9

-- votes carry bucket 0 and round 0
pub record Message : Type 0 where
  pub sender : ℕ
  pub receiver : ℕ
  pub bucket : ℕ
  pub election : ℕ
  pub round : ℕ
  pub body : Body

-- ---- the cluster: servers, the number of buckets, messages in flight, accepted lines, and calls made

pub record Cluster : Type 0 where
  pub servers : List Server
  pub buckets : ℕ
  pub messages : List Message
  pub accepted : ℕ
  pub calls : ℕ

-- ---- fresh: all numbers 0, all buckets empty with version (0, 0), no leader

abbrev pub fresh_copy : Copy
fresh_copy = copy_of (version 0 0) []

unfoldable pub fresh_server : ℕ → ℕ → Server
fresh_server n b =
    record {
      stored = record { number = 0; vote = 0; leader = 0; copies = replicate b fresh_copy };
      volatile = record { role = follower; votes = replicate n false; last_round = 0; rounds = replicate b none; calls = replicate b none };
      stopped = false;
    }

unfoldable pub fresh_cluster : ℕ → ℕ → Cluster
unfolding fresh_server
fresh_cluster n b =
    record { servers = replicate n (fresh_server n b); buckets = b; messages = []; accepted = 0; calls = 0 }

-- ---- parts of a server

abbrev pub copy_at : Stored → ℕ → Copy
copy_at st b = get_or st.copies b fresh_copy

abbrev pub round_at : Volatile → ℕ → Option Round
round_at w b = get_or w.rounds b none

abbrev pub call_at : Volatile → ℕ → Option Call
call_at w b = get_or w.calls b none
