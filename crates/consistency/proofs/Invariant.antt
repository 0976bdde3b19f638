-- What holds after every line: facts of the log alone, and how each server agrees with the log.
-- `n` is the number of servers, `now` the present line, `taken` the number of calls taken.
use mathlib.Core.Path.{◌≡◌}
use mathlib.Core.Logic.{◌⊎◌, ◌≢◌}
use mathlib.Core.List.{List}
use mathlib.Core.Bool.{true, false}
use mathlib.Core.Option.{Option, none, some}
use Prim.Native.Nat.{ℕ, suc, ◌≤◌, ◌<◌}
use native.Mathlib.Omega.{arith}
use lib.ListN.{length, get_or}
use Rattle.entries.specs.Entries.{Entry}
use Rattle.model.specs.Calls.{done, notdone, unknown, answers, writes, effect}
use Rattle.model.specs.Cluster.{Version, version, Copy, Stored, copy_at, Role, follower, candidate, leading, Purpose, recovery_read, recovery_write, check, own_write, Mark, silent, acknowledged, Round, Call, Volatile, round_at, call_at, Server}
use Rattle.history.specs.Members.{◌∈◌}
use Rattle.history.specs.Version.{◌≼◌}
use Rattle.consistency.proofs.Majorities.{MajorityOf}
use Rattle.consistency.proofs.Log.{Vote, Win, Write, Accept, Report, Opened, Check, Begun, Ended, Log}
use Rattle.consistency.proofs.Claims.{Won, Holds, Chosen, Reported, Accepted}

-- no write is the own write of call i; call i has not ended
abbrev pub Unwritten : Log → ℕ → Type 0
Unwritten log i = (w : Write) → w ∈ log.writes → w.call ≡ some i → ⊥

abbrev pub Unended : Log → ℕ → Type 0
Unended log i = (x : Ended) → x ∈ log.ends → x.number ≡ i → ⊥

-- ---- facts of the log alone

pub record VoteFacts (n : ℕ) (log : Log) : Type 0 where
  -- one vote for each server and number
  pub one_vote : (x y : Vote) → x ∈ log.votes → y ∈ log.votes → x.server ≡ y.server → x.election ≡ y.election → x.leader ≡ y.leader
  pub quorate : (x : Win) → x ∈ log.wins → MajorityOf n x.members
  pub voted : (x : Win) → x ∈ log.wins → (q : ℕ) → q ∈ x.members → record { server = q; election = x.election; leader = x.leader } ∈ log.votes

-- what a write makes of the table it comes from
pub data Makes (log : Log) (w : Write) (t : List Entry) : Option ℕ → Type 0 where
  kept : w.table ≡ t → Makes log w t none
  changed :
      (x : Begun) → x ∈ log.begins → x.bucket ≡ w.bucket → x.line ≤ w.line →
      effect x.words t ≡ writes w.table → Makes log w t (some x.number)

pub record Origin (log : Log) (w : Write) : Type 0 where
  pub table : List Entry
  pub holds : Holds log w.bucket w.parent table
  pub makes : Makes log w table w.call
  pub older : (x : Write) → x ∈ log.writes → x.bucket ≡ w.bucket → x.at ≡ w.parent → x.line ≤ w.line

-- the first write under a number follows a majority's reports; any other follows the write before it
pub data Succeeds (n : ℕ) (log : Log) (w : Write) : Type 0 where
  recovers :
      w.at.counter ≡ 1 → w.parent.election < w.at.election →
      (l : List ℕ) → MajorityOf n l → (k : ℕ) →
      ((q : ℕ) → q ∈ l → (r : Version) × Reported log q w.bucket w.at.election k r × (r ≼ w.parent)) →
      Succeeds n log w
  follows : w.parent.election ≡ w.at.election → w.at.counter ≡ suc w.parent.counter → 1 ≤ w.parent.counter → Succeeds n log w

pub record WriteFacts (n : ℕ) (log : Log) : Type 0 where
  pub unique : (w x : Write) → w ∈ log.writes → x ∈ log.writes → w.bucket ≡ x.bucket → w.at ≡ x.at → w ≡ x
  pub positive : (w : Write) → w ∈ log.writes → (1 ≤ w.at.election) × (1 ≤ w.at.counter)
  pub origin : (w : Write) → w ∈ log.writes → Origin log w
  pub succeeds : (w : Write) → w ∈ log.writes → Succeeds n log w
  pub won : (w : Write) → w ∈ log.writes → (x : Win) × (x ∈ log.wins) × (x.election ≡ w.at.election) × (x.line ≤ w.line)
  pub once : (w x : Write) → w ∈ log.writes → x ∈ log.writes → (i : ℕ) → w.call ≡ some i → x.call ≡ some i → w ≡ x

pub record RoundFacts (log : Log) : Type 0 where
  pub won : (o : Opened) → o ∈ log.rounds → Won log o.election o.leader
  pub unique : (o p : Opened) → o ∈ log.rounds → p ∈ log.rounds → o.election ≡ p.election → o.number ≡ p.number → o ≡ p
  -- a report belongs to a round, and is no newer than its election
  pub reported : (r : Report) → r ∈ log.reports → (o : Opened) × (o ∈ log.rounds) × (o.election ≡ r.election) × (o.number ≡ r.round)
  pub bounded : (r : Report) → r ∈ log.reports → r.at.election ≤ r.election
  -- what was accepted was written
  pub accepted : (a : Accept) → a ∈ log.accepts → (w : Write) × (w ∈ log.writes) × (w.bucket ≡ a.bucket) × (w.at ≡ a.at)
  -- what a server accepted is no newer than what it reports under a higher number
  pub promised : (a : Accept) (r : Report) → a ∈ log.accepts → r ∈ log.reports → a.server ≡ r.server → a.bucket ≡ r.bucket → a.at.election < r.election → a.at ≼ r.at
  -- a checking round looks at the newest write under its number
  pub newest : (o : Opened) → o ∈ log.rounds → o.purpose ≡ check → (w : Write) → w ∈ log.writes → w.bucket ≡ o.bucket → w.at.election ≡ o.at.election → w.line < o.line → w.at ≼ o.at
  pub written : (o : Opened) → o ∈ log.rounds → o.purpose ≡ check → (w : Write) → w ∈ log.writes → w.bucket ≡ o.bucket → w.at ≡ o.at → w.line ≤ o.line
  pub looks_at : (o : Opened) → o ∈ log.rounds → o.purpose ≡ check → (w : Write) × (w ∈ log.writes) × (w.bucket ≡ o.bucket) × (w.at ≡ o.at)
  pub under : (o : Opened) → o ∈ log.rounds → o.purpose ≡ check → o.at.election ≡ o.election
  -- whoever confirms a round voted in no higher election that was won before the round opened
  pub unseated : (r : Report) (o : Opened) (x : Win) → r ∈ log.reports → o ∈ log.rounds → x ∈ log.wins → o.election ≡ r.election → o.number ≡ r.round → r.election < x.election → x.line < o.line → r.server ∈ x.members → ⊥

-- how a call came to its end
pub data EndOk (n : ℕ) (log : Log) (x : Ended) : Type 0 where
  undone : x.result ≡ notdone → Unwritten log x.number → EndOk n log x
  unsure : x.result ≡ unknown → EndOk n log x
  by_write : x.result ≡ done → (w : Write) → w ∈ log.writes → w.call ≡ some x.number → Chosen n log w.bucket w.at → EndOk n log x
  by_check :
      (c : Check) → c ∈ log.checks → c.call ≡ x.number → c.line ≤ x.line → Chosen n log c.bucket c.at →
      (y : Begun) → y ∈ log.begins → y.number ≡ x.number → y.bucket ≡ c.bucket → y.line ≤ c.line →
      ((t : List Entry) → Holds log c.bucket c.at t → effect y.words t ≡ answers x.result) →
      Unwritten log x.number → EndOk n log x

pub record CallFacts (n : ℕ) (log : Log) : Type 0 where
  pub begun_once : (x y : Begun) → x ∈ log.begins → y ∈ log.begins → x.number ≡ y.number → x ≡ y
  pub in_turn : (x y : Begun) → x ∈ log.begins → y ∈ log.begins → x.line < y.line → x.number < y.number
  pub ended_once : (x y : Ended) → x ∈ log.ends → y ∈ log.ends → x.number ≡ y.number → x ≡ y
  pub ended_begun : (x : Ended) → x ∈ log.ends → (y : Begun) × (y ∈ log.begins) × (y.number ≡ x.number) × (y.line ≤ x.line)
  pub written_before : (x : Ended) → x ∈ log.ends → (w : Write) → w ∈ log.writes → w.call ≡ some x.number → w.line ≤ x.line
  pub justified : (x : Ended) → x ∈ log.ends → EndOk n log x
  -- a check that answered a call is a checking round, confirmed by a majority
  pub confirmed :
      (c : Check) → c ∈ log.checks →
      MajorityOf n c.members
      × (o : Opened) × (o ∈ log.rounds) × (o.purpose ≡ check) × (o.bucket ≡ c.bucket) × (o.at ≡ c.at) × (o.line ≡ c.line)
      × ((q : ℕ) → q ∈ c.members → (r : Version) × Reported log q c.bucket o.election o.number r)

-- nothing is later than the present line; `taken` is the number of calls taken
pub record TimeFacts (now taken : ℕ) (log : Log) : Type 0 where
  pub wins : (x : Win) → x ∈ log.wins → x.line ≤ now
  pub writes : (x : Write) → x ∈ log.writes → x.line ≤ now
  pub rounds : (x : Opened) → x ∈ log.rounds → x.line ≤ now
  pub begins : (x : Begun) → x ∈ log.begins → x.line ≤ now
  pub ends : (x : Ended) → x ∈ log.ends → x.line ≤ now
  pub numbers : (x : Begun) → x ∈ log.begins → x.number ≤ taken

pub record LogOk (n now taken : ℕ) (log : Log) : Type 0 where
  pub votes : VoteFacts n log
  pub writes : WriteFacts n log
  pub rounds : RoundFacts log
  pub calls : CallFacts n log
  pub time : TimeFacts now taken log

-- ---- how a server agrees with the log

-- server p's own entries are bounded by what it stores
pub record StoredOk (log : Log) (p : ℕ) (st : Stored) : Type 0 where
  pub number : st.number ≤ st.vote
  pub votes : (x : Vote) → x ∈ log.votes → x.server ≡ p → x.election ≤ st.vote
  pub voted : 1 ≤ st.vote → (record { server = p; election = st.vote; leader = st.leader } ∈ log.votes) ⊎ Won log st.vote st.leader
  pub wins : (x : Win) → x ∈ log.wins → x.leader ≡ p → x.election ≤ st.number
  pub copies : (b : ℕ) → Holds log b (copy_at st b).version (copy_at st b).table × ((copy_at st b).version.election ≤ st.vote)
  pub accepts : (x : Accept) → x ∈ log.accepts → x.server ≡ p → (x.at ≼ (copy_at st x.bucket).version) × (x.at.election ≤ st.vote)
  pub reports : (x : Report) → x ∈ log.reports → x.server ≡ p → x.election ≤ st.vote

-- the marks of a round: each is backed by the log
abbrev pub MarksAccepted : Log → ℕ → Version → List Mark → Type 0
MarksAccepted log b x marks = (q : ℕ) → get_or marks q silent ≡ acknowledged → Accepted log q b x

abbrev pub MarksReported : Log → ℕ → ℕ → ℕ → (Version → Type 0) → List Mark → Type 0
MarksReported log b e k P marks = (q : ℕ) → get_or marks q silent ≡ acknowledged → (r : Version) × Reported log q b e k r × P r

-- what an open round says, by what it is made for; x is the version of its log entry, e the leader's number
abbrev pub PhaseOk : ℕ → Log → ℕ → ℕ → Version → Copy → Round → Call → Purpose → Type 0
PhaseOk n log e b x copy r c recovery_read =
    (copy.version.election ≢ e)
    × (c.sent ≡ false)
    × Unwritten log c.number
    × Holds log b r.best.version r.best.table
    × (r.best.version.election ≤ e)
    × MarksReported log b e r.number (λ v. v ≼ r.best.version) r.marks
PhaseOk n log e b x copy r c recovery_write =
    (copy.version ≡ x) × (x ≡ version e 1) × (c.sent ≡ false) × Unwritten log c.number × MarksAccepted log b x r.marks
PhaseOk n log e b x copy r c check =
    (copy.version ≡ x)
    × (x.election ≡ e)
    × (c.sent ≡ false)
    × Unwritten log c.number
    × Chosen n log b x
    × MarksReported log b e r.number (λ v. Unit {0}) r.marks
PhaseOk n log e b x copy r c own_write =
    (copy.version ≡ x)
    × (x.election ≡ e)
    × (c.sent ≡ true)
    × (w : Write)
    × (w ∈ log.writes)
    × (w.bucket ≡ b)
    × (w.at ≡ x)
    × (w.call ≡ some c.number)
    × MarksAccepted log b x r.marks

-- an open call: it was taken here, and has not ended
pub record CallOk (log : Log) (p b : ℕ) (c : Call) : Type 0 where
  pub line : ℕ
  pub begun : record { number = c.number; server = p; bucket = b; words = c.words; line = line } ∈ log.begins
  pub unended : Unended log c.number

pub record RoundOk (n : ℕ) (log : Log) (p e b : ℕ) (copy : Copy) (r : Round) (c : Call) : Type 0 where
  pub call : CallOk log p b c
  pub election : r.election ≡ e
  pub marks : length r.marks ≡ n
  pub at : Version
  pub line : ℕ
  pub opened : record { leader = p; election = e; number = r.number; bucket = b; purpose = r.purpose; at = at; call = c.number; line = line } ∈ log.rounds
  pub after : call.line ≤ line
  pub phase : PhaseOk n log e b at copy r c r.purpose

-- a bucket at a leader: with no round open nothing is open, and what is written under its number is chosen
abbrev pub BucketOk : ℕ → Log → ℕ → ℕ → ℕ → Copy → Option Round → Option Call → Type 0
BucketOk n log p e b copy none none = copy.version.election ≡ e → Chosen n log b copy.version
BucketOk n log p e b copy none (some c) = ⊥
BucketOk n log p e b copy (some r) none = ⊥
BucketOk n log p e b copy (some r) (some c) = RoundOk n log p e b copy r c

-- a leader's copy is the newest write under its number, if there is any
pub record CopyNewest (log : Log) (e b : ℕ) (copy : Copy) : Type 0 where
  pub recovered : copy.version.election ≡ e → (w : Write) → w ∈ log.writes → w.bucket ≡ b → w.at.election ≡ e → w.at ≼ copy.version
  pub unrecovered : (copy.version.election ≡ e → ⊥) → (w : Write) → w ∈ log.writes → w.bucket ≡ b → w.at.election ≡ e → ⊥

abbrev pub Idle : Volatile → Type 0
Idle w = (b : ℕ) → (round_at w b ≡ none) × (call_at w b ≡ none)

-- server p's rounds under its number are numbered up to its last one
abbrev pub Numbered : Log → ℕ → Stored → Volatile → Type 0
Numbered log p st w = (o : Opened) → o ∈ log.rounds → o.leader ≡ p → o.election ≡ st.number → o.number ≤ w.last_round

-- `Numbered` is asked of leaders alone: after a start the last round is 0, while the log has rounds under the server's number; it leads
-- again only under a higher one
abbrev pub RoleOk : ℕ → Log → ℕ → Stored → Volatile → Role → Type 0
RoleOk n log p st w follower = Idle w
RoleOk n log p st w candidate =
    Idle w
    × (st.vote ≡ st.number)
    × (1 ≤ st.number)
    × ((x : Win) → x ∈ log.wins → x.election ≡ st.number → x.leader ≡ p → ⊥)
    × ((q : ℕ) → get_or w.votes q false ≡ true → record { server = q; election = st.number; leader = p } ∈ log.votes)
RoleOk n log p st w leading =
    Won log st.number p
    × (st.vote ≡ st.number)
    × (1 ≤ st.number)
    × ((b : ℕ) → CopyNewest log st.number b (copy_at st b))
    × ((b : ℕ) → BucketOk n log p st.number b (copy_at st b) (round_at w b) (call_at w b))
    × Numbered log p st w

pub record Shape (n buckets : ℕ) (s : Server) : Type 0 where
  pub copies : length s.stored.copies ≡ buckets
  pub votes : length s.volatile.votes ≡ n
  pub rounds : length s.volatile.rounds ≡ buckets
  pub calls : length s.volatile.calls ≡ buckets

-- a server that runs
pub record ServerOk (n buckets : ℕ) (log : Log) (p : ℕ) (s : Server) : Type 0 where
  pub shape : Shape n buckets s
  pub stored : StoredOk log p s.stored
  pub role : RoleOk n log p s.stored s.volatile s.volatile.role

-- any server. Of what a stopped one keeps beside what is stored, only this is asked: that it won the number it leads under, and that its
-- open calls were taken there and have not ended. A leader that was cut may have voted above its number
pub record AnyServerOk (n buckets : ℕ) (log : Log) (p : ℕ) (s : Server) : Type 0 where
  pub shape : Shape n buckets s
  pub stored : StoredOk log p s.stored
  pub won : s.volatile.role ≡ leading → Won log s.stored.number p
  pub calls : (b : ℕ) (c : Call) → call_at s.volatile b ≡ some c → CallOk log p b c
  pub role : s.stopped ≡ false → RoleOk n log p s.stored s.volatile s.volatile.role

pub running : {n buckets : ℕ} {log : Log} {p : ℕ} {s : Server} → AnyServerOk n buckets log p s → s.stopped ≡ false → ServerOk n buckets log p s
running h e = record { shape = h.shape; stored = h.stored; role = h.role e }

role_won : (n : ℕ) (log : Log) (p : ℕ) (st : Stored) (w : Volatile) (r : Role) → RoleOk n log p st w r → r ≡ leading → Won log st.number p
role_won n log p st w follower h e = let z : ◌≡◌ {A = ℕ} 0 1 = cc in absurd (omega arith)
role_won n log p st w candidate h e = let z : ◌≡◌ {A = ℕ} 0 1 = cc in absurd (omega arith)
role_won n log p st w leading h e = h.0

bucket_call : (n : ℕ) (log : Log) (p e b : ℕ) (copy : Copy) (r : Option Round) (c : Call) → BucketOk n log p e b copy r (some c) → CallOk log p b c
bucket_call n log p e b copy none c h = absurd h
bucket_call n log p e b copy (some r) c h = h.call

idle_call : {P : Type 0} (w : Volatile) → Idle w → (b : ℕ) (c : Call) → call_at w b ≡ some c → P
idle_call w h b c e = let z : ◌≡◌ {A = ℕ} 0 1 = cc (h b).1 in absurd (omega arith)

role_calls : (n : ℕ) (log : Log) (p : ℕ) (st : Stored) (w : Volatile) (r : Role) → RoleOk n log p st w r → (b : ℕ) (c : Call) → call_at w b ≡ some c → CallOk log p b c
role_calls n log p st w follower h b c e = idle_call w h b c e
role_calls n log p st w candidate h b c e = idle_call w h.0 b c e
role_calls n log p st w leading h b c e = bucket_call n log p st.number b (copy_at st b) (round_at w b) c (rw e at (h.4 b))

pub any_server : {n buckets : ℕ} {log : Log} {p : ℕ} {s : Server} → ServerOk n buckets log p s → AnyServerOk n buckets log p s
any_server {n} {log = log} {p} {s} h =
    record {
      shape = h.shape;
      stored = h.stored;
      won = role_won n log p s.stored s.volatile s.volatile.role h.role;
      calls = role_calls n log p s.stored s.volatile s.volatile.role h.role;
      role = λ e. h.role;
    }
