-- The measures that every run keeps: one record for each kind of thing that a cluster holds. `n` is the number of
-- servers, `b` the number of buckets; `Limits` holds what rises with the accepted lines.
use Rattle.std.specs.Prelude.{◌≡◌, List, [], ◌∷◌, true, ◌≢◌, ℕ, ◌+◌, ◌*◌, ◌≤◌, ◌<◌, min, length}
use Rattle.std.proofs.Math.Option.{Option, none, some}
use Rattle.entries.specs.Entries.{Entry}
use Rattle.table.specs.Form.{ValueAtMost, fits}
use Rattle.model.specs.Measures.{max_entries, max_key_bytes, max_value_bytes}
use Rattle.model.specs.Calls.{Words, get, set, setif, del, keys, bucket_for, Result, value, listed, done, mismatch, full, notdone, unknown, Answer}
use Rattle.model.specs.Cluster.{Copy, Stored, Role, follower, candidate, leading, Purpose, recovery_read, recovery_write, check, own_write, Round, Call, Volatile, Server, Body, please_vote, ack_vote, nack_vote, replica_write, ack_write, nack_write, replica_read, ack_read, nack_read, Message, Cluster, round_at, call_at, fresh_copy}
use Rattle.model.specs.Replica.{Request, reading, writing}
use Rattle.model.specs.Leader.{Reaction}
use Rattle.limits.specs.Lists.{All}

-- the greatest election number, the greatest round number and counter, and the greatest number of a call
pub record Limits : Type 0 where
  pub elections : ℕ
  pub rounds : ℕ
  pub calls : ℕ

-- after k accepted lines, where no election number is above `top`: a line raises the greatest election number in the cluster
-- and the greatest number of a call by at most one, and it makes at most four rounds
abbrev pub limits_after : ℕ → ℕ → Limits
limits_after top k = record { elections = min k top; rounds = 4 * k; calls = k }

-- ---- copies. `q` is the number of rounds that may still be made in the same line: at rest it is 0

-- a table with a bucket form: at most 4 rising keys of 1 to 8 bytes, with values of at most 16
abbrev pub Fits : List Entry → Type 0
Fits t = fits max_entries max_value_bytes t ≡ true

pub record CopyWithin (l : Limits) (q : ℕ) (c : Copy) : Type 0 where
  pub election : c.version.election ≤ l.elections
  pub counter : c.version.counter + q ≤ l.rounds
  pub unwritten : c.version.election ≡ 0 → c.version.counter ≡ 0
  pub written : c.version.counter ≡ 0 → c.version.election ≡ 0
  pub empty : c.version.election ≡ 0 → c.table ≡ []
  pub fitting : Fits c.table

pub record StoredWithin (n b : ℕ) (l : Limits) (q : ℕ) (st : Stored) : Type 0 where
  pub number : st.number ≤ l.elections
  pub vote : st.vote ≤ l.elections
  pub leader : st.leader < n
  pub size : length st.copies ≡ b
  pub copies : All (CopyWithin l q) st.copies

-- ---- calls

abbrev pub KeySized : List ℕ → Type 0
KeySized k = (1 ≤ length k) × (length k ≤ max_key_bytes)

abbrev pub ValueSized : Option (List ℕ) → Type 0
ValueSized v = ValueAtMost max_value_bytes v

abbrev pub WordsSized : Words → Type 0
WordsSized (get k) = KeySized k
WordsSized (set k v) = KeySized k × ValueSized v
WordsSized (setif k e v) = KeySized k × ValueSized e × ValueSized v
WordsSized (del k) = KeySized k
WordsSized (keys i) = Unit {0}

-- a call on bucket i
pub record CallWithin (b : ℕ) (l : Limits) (i q : ℕ) (c : Call) : Type 0 where
  pub first : 1 ≤ c.number
  pub last : c.number ≤ l.calls
  pub rounds : c.rounds + q ≤ l.rounds
  pub sizes : WordsSized c.words
  pub bucket : bucket_for b c.words ≡ i

-- ---- rounds

-- only a recovery read looks at copies
abbrev pub Unread : Purpose → Copy → Type 0
Unread recovery_read c = Unit {0}
Unread recovery_write c = c ≡ fresh_copy
Unread check c = c ≡ fresh_copy
Unread own_write c = c ≡ fresh_copy

-- a round of a server with that number
pub record RoundWithin (n : ℕ) (l : Limits) (number : ℕ) (r : Round) : Type 0 where
  pub low : 1 ≤ r.number
  pub high : r.number ≤ l.rounds
  pub elected : 1 ≤ r.election
  pub election : r.election ≤ l.elections
  pub present : r.election ≡ number
  pub marks : length r.marks ≡ n
  pub best : CopyWithin l 0 r.best
  pub unread : Unread r.purpose r.best

-- a bucket has a round open exactly where it has a call open
pub data SlotWithin (n b : ℕ) (l : Limits) (q number i : ℕ) : Option Round → Option Call → Type 0 where
  idle : SlotWithin n b l q number i none none
  busy : {r : Round} {c : Call} → RoundWithin n l number r → CallWithin b l i q c → SlotWithin n b l q number i (some r) (some c)

-- ---- servers

-- whoever stands or leads has raised its number
abbrev pub RoleWithin : Role → ℕ → Type 0
RoleWithin follower number = Unit {0}
RoleWithin candidate number = 1 ≤ number
RoleWithin leading number = 1 ≤ number

-- role, votes and last round of a server, and how many places its rounds and calls have
pub record FrameWithin (n b : ℕ) (l : Limits) (q number : ℕ) (w : Volatile) : Type 0 where
  pub votes : length w.votes ≡ n
  pub rounds : length w.rounds ≡ b
  pub calls : length w.calls ≡ b
  pub last_round : w.last_round + q ≤ l.rounds
  pub standing : RoleWithin w.role number

pub record ServerWithin (n b : ℕ) (l : Limits) (q : ℕ) (s : Server) : Type 0 where
  pub stored : StoredWithin n b l q s.stored
  pub frame : FrameWithin n b l q s.stored.number s.volatile
  pub slots : (i : ℕ) → i < b →
      SlotWithin n b l q s.stored.number i (round_at s.volatile i) (call_at s.volatile i)

-- ---- messages

-- what a round asks under number e
abbrev pub RequestWithin : Limits → (q e : ℕ) → Request → Type 0
RequestWithin l q e reading = Unit {0}
RequestWithin l q e (writing c) = (c.version.election ≡ e) × CopyWithin l q c

abbrev pub OfVote : Message → Type 0
OfVote m = (m.bucket ≡ 0) × (m.round ≡ 0)

abbrev pub OfRound : Limits → Message → Type 0
OfRound l m = (1 ≤ m.round) × (m.round ≤ l.rounds)

abbrev pub BodyWithin : Limits → Message → Body → Type 0
BodyWithin l m please_vote = OfVote m
BodyWithin l m ack_vote = OfVote m
BodyWithin l m nack_vote = OfVote m
BodyWithin l m (replica_write c) = OfRound l m × (c.version.election ≡ m.election) × CopyWithin l 0 c
BodyWithin l m ack_write = OfRound l m
BodyWithin l m nack_write = OfRound l m
BodyWithin l m replica_read = OfRound l m
BodyWithin l m (ack_read c) = OfRound l m × CopyWithin l 0 c
BodyWithin l m nack_read = OfRound l m

pub record MessageWithin (n b : ℕ) (l : Limits) (m : Message) : Type 0 where
  pub sender : m.sender < n
  pub receiver : m.receiver < n
  pub apart : m.sender ≢ m.receiver
  pub bucket : m.bucket < b
  pub elected : 1 ≤ m.election
  pub election : m.election ≤ l.elections
  pub body : BodyWithin l m m.body

-- ---- answers

abbrev pub ResultWithin : Result → Type 0
ResultWithin (value v) = ValueSized v
ResultWithin (listed l) = (length l ≤ max_entries) × All KeySized l
ResultWithin done = Unit {0}
ResultWithin mismatch = Unit {0}
ResultWithin full = Unit {0}
ResultWithin notdone = Unit {0}
ResultWithin unknown = Unit {0}

pub record AnswerWithin (l : Limits) (a : Answer) : Type 0 where
  pub first : 1 ≤ a.call
  pub last : a.call ≤ l.calls
  pub rounds : a.rounds ≤ l.rounds
  pub result : ResultWithin a.result

-- the results of calls that end with their server's leading
abbrev pub Ending : Result → Type 0
Ending (value v) = ⊥
Ending (listed l) = ⊥
Ending done = ⊥
Ending mismatch = ⊥
Ending full = ⊥
Ending notdone = Unit {0}
Ending unknown = Unit {0}

-- a line answers one call, or ends at most one for each bucket
pub data AnswersWithin (b : ℕ) (l : Limits) : List Answer → Type 0 where
  single : {a : Answer} → AnswerWithin l a → AnswersWithin b l (a ∷ [])
  endings : {out : List Answer} → length out ≤ b → All (λ a. AnswerWithin l a × Ending a.result) out → AnswersWithin b l out

pub record ReactionWithin (n b : ℕ) (l : Limits) (r : Reaction) : Type 0 where
  pub server : ServerWithin n b l 0 r.server
  pub sends : All (MessageWithin n b l) r.sends
  pub answers : AnswersWithin b l r.answers

-- ---- the cluster after k accepted lines

pub record ClusterWithin (top n b k : ℕ) (c : Cluster) : Type 0 where
  pub size : length c.servers ≡ n
  pub buckets : c.buckets ≡ b
  pub accepted : c.accepted ≡ k
  pub calls : c.calls ≤ k
  pub servers : All (ServerWithin n b (limits_after top k) 0) c.servers
  pub messages : All (MessageWithin n b (limits_after top k)) c.messages
