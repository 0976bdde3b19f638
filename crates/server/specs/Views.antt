-- What the structs of a server stand for in the definitions of crates/model. Every number stands for something.
-- `n` is the number of servers: votes and marks past the first n stand for nothing.
use Rattle.std.specs.Prelude.{ℕ, Bool, true, false, leb, List, map, take, ◌==◌, nat_eq, nat_le}
use Rattle.std.proofs.Math.Option.{Option, none, some}
use Rattle.entries.specs.Entries.{Entry, keys_of}
use Rattle.entries.specs.Decoded.{key_bytes, value_bytes, item_in, table_in}
use Rattle.model.specs.Calls as calls
use Rattle.model.specs.Cluster as cluster
use Rattle.server.specs.declared.Version.{Version}
use Rattle.server.specs.declared.Head.{Head}
use Rattle.server.specs.declared.Round.{Round}
use Rattle.server.specs.declared.Call.{Call}
use Rattle.server.specs.declared.Words.{Words}
use Rattle.server.specs.declared.Answer.{Answer}
use Rattle.server.specs.declared.Effect.{Effect}

-- ---- numbers

-- 1 is yes
unfoldable pub flag_in : ℕ → Bool
flag_in x = x == 1

unfoldable pub role_in : ℕ → cluster.Role
role_in x =
    elim (x == 1) [ true ↦ cluster.candidate | false ↦ elim (x == 2) [ true ↦ cluster.leading | false ↦ cluster.follower ] ]

unfoldable pub mark_in : ℕ → cluster.Mark
mark_in x =
    elim (x == 1) [ true ↦ cluster.acknowledged | false ↦ elim (x == 2) [ true ↦ cluster.refused | false ↦ cluster.silent ] ]

-- 1 to 4, in the order in which a call makes its rounds
unfoldable pub purpose_in : ℕ → cluster.Purpose
purpose_in x =
    elim (x == 1) [
      | true ↦ cluster.recovery_read
      | false ↦
          elim (x == 2) [
            | true ↦ cluster.recovery_write
            | false ↦
                elim (x == 3) [ true ↦ cluster.check | false ↦ cluster.own_write ]
          ]
    ]

-- whether x is one of 1 to top: the purposes of open rounds, the kinds of open calls
unfoldable pub among : ℕ → ℕ → Bool
among top x = elim (nat_le 1 x) [ true ↦ leb x top | false ↦ false ]

-- kinds 1, 4 and 7 go to all others
unfoldable pub is_broadcast : ℕ → Bool
is_broadcast kind = elim (kind == 1) [ true ↦ true | false ↦ elim (kind == 4) [ true ↦ true | false ↦ nat_eq kind 7 ] ]

-- the first number, or the second
unfoldable pub chosen : Bool → ℕ → ℕ → ℕ
chosen b x y = elim b [ true ↦ x | false ↦ y ]

abbrev pub version_in : Version → cluster.Version
version_in v = cluster.version v.election v.counter

abbrev pub copy_in : Version → List Entry → cluster.Copy
copy_in v t = cluster.copy_of (version_in v) t

-- ---- a server

abbrev pub votes_in : ℕ → Head → List Bool
votes_in n h = map flag_in (take n h.votes)

abbrev pub stored_in : Head → List cluster.Copy → cluster.Stored
stored_in h copies = record { number = h.number; vote = h.vote; leader = h.leader; copies = copies }

abbrev pub volatile_in : ℕ → Head → List (Option cluster.Round) → List (Option cluster.Call) → cluster.Volatile
volatile_in n h rounds calls =
    record { role = role_in h.role; votes = votes_in n h; last_round = h.last; rounds = rounds; calls = calls }

-- what a server holds beside its head
pub record Beside : Type 0 where
  pub copies : List cluster.Copy
  pub rounds : List (Option cluster.Round)
  pub calls : List (Option cluster.Call)

abbrev pub server_in : ℕ → Beside → Head → cluster.Server
server_in n x h =
    record { stored = stored_in h x.copies; volatile = volatile_in n h x.rounds x.calls; stopped = flag_in h.stopped }

-- the same with no round and no call open
abbrev pub idle : Beside → Beside
idle x = record { copies = x.copies; rounds = map (λ r. none) x.rounds; calls = map (λ c. none) x.calls }

-- what stands beside the head of a server
abbrev pub beside_in : cluster.Server → Beside
beside_in s = record { copies = s.stored.copies; rounds = s.volatile.rounds; calls = s.volatile.calls }

-- ---- a round

abbrev pub marks_in : ℕ → Round → List cluster.Mark
marks_in n r = map mark_in (take n r.marks)

-- a round that is open, with the best copy's table
abbrev pub open_in : ℕ → Round → List Entry → cluster.Round
open_in n r t =
    record {
      number = r.number;
      election = r.election;
      purpose = purpose_in r.purpose;
      marks = marks_in n r;
      best = copy_in r.best t;
    }

unfoldable pub round_in : ℕ → Round → List Entry → Option cluster.Round
round_in n r t = elim (among 4 r.purpose) [ true ↦ some (open_in n r t) | false ↦ none ]

-- ---- a call

-- the words by their kind: with bucket b, key k, expected value e and new value v
abbrev pub words_of_kind : ℕ → ℕ → List ℕ → Option (List ℕ) → Option (List ℕ) → calls.Words
words_of_kind kind b k e v =
    elim (kind == 1) [
      | true ↦ calls.get k
      | false ↦
          elim (kind == 2) [
            | true ↦ calls.set k v
            | false ↦
                elim (kind == 3) [
                  | true ↦ calls.setif k e v
                  | false ↦
                      elim (kind == 4) [ true ↦ calls.del k | false ↦ calls.keys b ]
                ]
          ]
    ]

unfoldable pub words_by : ℕ → Words → calls.Words
words_by kind w = words_of_kind kind w.bucket (key_bytes w.key) (item_in w.expected) (item_in w.value)

abbrev pub words_in : Words → calls.Words
words_in w = words_by w.kind w

-- a call that is open, with its words
abbrev pub taken_in : Call → calls.Words → cluster.Call
taken_in c words = record { number = c.number; words = words; rounds = c.rounds; sent = flag_in c.sent }

unfoldable pub call_in : Call → calls.Words → Option cluster.Call
call_in c words = elim (among 5 c.kind) [ true ↦ some (taken_in c words) | false ↦ none ]

-- ---- results: the words of RULES, Output 3, in their order, with the data of the first two; 8 is the value of an absent key

unfoldable pub result_in : ℕ → List ℕ → List Entry → calls.Result
result_in x v t =
    elim (x == 1) [
      | true ↦ calls.value (some v)
      | false ↦
          elim (x == 2) [
            | true ↦ calls.listed (keys_of t)
            | false ↦
                elim (x == 3) [
                  | true ↦ calls.done
                  | false ↦
                      elim (x == 4) [
                        | true ↦ calls.mismatch
                        | false ↦
                            elim (x == 5) [
                              | true ↦ calls.full
                              | false ↦
                                  elim (x == 6) [
                                    | true ↦ calls.notdone
                                    | false ↦
                                        elim (x == 8) [ true ↦ calls.value none | false ↦ calls.unknown ]
                                  ]
                            ]
                      ]
                ]
          ]
    ]

abbrev pub answer_in : Answer → List ℕ → List Entry → calls.Answer
answer_in a v t = record { call = a.call; result = result_in a.result v t; rounds = a.rounds }

-- with result 0 the table is to be written
unfoldable pub effect_in : Effect → calls.Effect
effect_in f =
    elim (f.result == 0) [ true ↦ calls.writes (table_in f.table) | false ↦ calls.answers (result_in f.result (value_bytes f.value) (table_in f.table)) ]
