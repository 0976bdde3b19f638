-- What a move stands for in the definitions of crates/model: the reaction of its server, seen as its front and its cells.
-- `n` is the number of servers, `me` the server's own number, `b` the bucket of the slot.
use Rattle.std.specs.Prelude.{◌≡◌, true, false, List, [], ◌∷◌, map, ℕ, ◌≤◌, eqb, length}
use Rattle.std.proofs.Math.Option.{none}
use Rattle.entries.specs.Entries.{Entry}
use Rattle.model.specs.Calls as calls
use Rattle.model.specs.Cluster as cluster
use Rattle.model.specs.Leader.{Reaction, reaction, broadcast, endings}
use Rattle.cells.specs.Cells.{Front, Cell, front, cell, put_cell, Inside}
use Rattle.server.specs.declared.Version.{Version}
use Rattle.server.specs.declared.Head.{Head}
use Rattle.server.specs.declared.Round.{Round}
use Rattle.server.specs.declared.Answer.{Answer}
use Rattle.server.specs.declared.Effect.{Effect}
use Rattle.server.specs.declared.Message.{Message}
use Rattle.server.specs.Views.{flag_in, role_in, votes_in, copy_in, round_in, call_in, answer_in, effect_in}
use Rattle.rounds.specs.Rounds.{pick_table}
use Rattle.moves.specs.declared.Filling.TheVariants as filling
use Rattle.moves.specs.declared.Keeping.TheVariants as keeping
use Rattle.moves.specs.declared.Local.{Local}
use Rattle.moves.specs.declared.Move.{Move}
use Rattle.moves.specs.Moves.{recovered}

-- ---- a front and a cell

abbrev pub front_in : ℕ → Head → Front
front_in n h =
    record {
      number = h.number;
      vote = h.vote;
      leader = h.leader;
      role = role_in h.role;
      votes = votes_in n h;
      last_round = h.last;
      stopped = flag_in h.stopped;
    }

-- the best reported table is looked at in a recovery read alone: for other rounds it is empty
unfoldable pub best_in : Round → List Entry → List Entry
best_in r t = pick_table (eqb r.purpose 1) t []

-- the cell of a slot, with the table of its copy, its working table and the words of its call
abbrev pub cell_in : ℕ → Local → List Entry → List Entry → calls.Words → Cell
cell_in n l copy work words =
    record {
      copy = copy_in l.version copy;
      round = round_in n l.round (best_in l.round work);
      call = call_in l.call words;
    }

-- a server that a local and these tables and words stand for, at bucket b
pub record Seen (n b : ℕ) (s : cluster.Server) (l : Local) (copy work : List Entry) (words : calls.Words) : Type 0 where
  pub inside : Inside s b
  pub front : front s ≡ front_in n l.head
  pub cell : cell s b ≡ cell_in n l copy work words
  pub votes : length l.head.votes ≡ 7

-- ---- the tables that a move works on: the copy's, the working table, the new table of the call's effect, the message's

pub record Tables : Type 0 where
  pub copy : List Entry
  pub work : List Entry
  pub made : List Entry
  pub message : List Entry

unfoldable pub work_after : Move → Tables → List Entry
work_after m t =
    elim m.fills [ filling.Stays ↦ t.work | filling.Copy ↦ t.copy | filling.Table ↦ t.made | filling.Message ↦ t.message ]

unfoldable pub copy_after : Move → Tables → List Entry
copy_after m t =
    elim m.keeps [ keeping.Stays ↦ t.copy | keeping.Working ↦ work_after m t | keeping.Message ↦ t.message ]

-- what the line of a call needs of the call's effect f on its copy's table: all of it with one server, which ends the call there, and
-- what is written where the copy is recovered, since that goes out at once
pub record EffectNeeded (n : ℕ) (l : Local) (words : calls.Words) (copy : List Entry) (f : Effect) : Type 0 where
  pub alone : n ≤ 1 → effect_in f ≡ calls.effect words copy
  pub written : recovered l ≡ true → calls.effect_writes (effect_in f) ≡ calls.effect_writes (calls.effect words copy)

-- ---- what is sent

-- the nine kinds (RULES, Datagrams 1), by number; any other number is none of them
unfoldable pub body_in : ℕ → Version → List Entry → cluster.Body
body_in kind v t =
    elim (eqb kind 1) [
      | true ↦ cluster.please_vote
      | false ↦
          elim (eqb kind 2) [
            | true ↦ cluster.ack_vote
            | false ↦
                elim (eqb kind 4) [
                  | true ↦ cluster.replica_write (copy_in v t)
                  | false ↦
                      elim (eqb kind 5) [
                        | true ↦ cluster.ack_write
                        | false ↦
                            elim (eqb kind 6) [
                              | true ↦ cluster.nack_write
                              | false ↦
                                  elim (eqb kind 7) [
                                    | true ↦ cluster.replica_read
                                    | false ↦
                                        elim (eqb kind 8) [
                                          | true ↦ cluster.ack_read (copy_in v t)
                                          | false ↦
                                              elim (eqb kind 9) [ true ↦ cluster.nack_read | false ↦ cluster.nack_vote ]
                                        ]
                                  ]
                            ]
                      ]
                ]
          ]
    ]

-- a message by value, with the table of its content
abbrev pub message_in : Message → List Entry → cluster.Message
message_in m t =
    record {
      sender = m.sender;
      receiver = m.receiver;
      bucket = m.bucket;
      election = m.election;
      round = m.round;
      body = body_in m.kind m.version t;
    }

-- what a reply answers: its sender, bucket, election number and round
pub record Asked : Type 0 where
  pub sender : ℕ
  pub bucket : ℕ
  pub election : ℕ
  pub round : ℕ

abbrev pub asked_in : Message → Asked
asked_in m = record { sender = m.sender; bucket = m.bucket; election = m.election; round = m.round }

abbrev pub reply_in : ℕ → Asked → cluster.Body → cluster.Message
reply_in me a body = record { sender = me; receiver = a.sender; bucket = a.bucket; election = a.election; round = a.round; body = body }

-- a broadcast of a call carries its bucket and the number of the round that it opened
unfoldable pub sends_in : ℕ → ℕ → ℕ → Asked → Move → Tables → List cluster.Message
sends_in n me b a m t =
    elim (eqb m.sends 0) [
      | true ↦ []
      | false ↦
          elim (eqb m.sends 1) [
            | true ↦ broadcast n me 0 m.local.head.number 0 cluster.please_vote
            | false ↦
                elim (eqb m.sends 4) [
                  | true ↦ broadcast n me b m.local.head.number m.local.head.last (cluster.replica_write (copy_in m.written (work_after m t)))
                  | false ↦
                      elim (eqb m.sends 7) [
                        | true ↦ broadcast n me b m.local.head.number m.local.head.last cluster.replica_read
                        | false ↦ reply_in me a (body_in m.sends m.written (copy_after m t)) ∷ []
                      ]
                ]
          ]
    ]

-- ---- what is answered; v and t are the data of `value` and `keys`

unfoldable pub answers_in : Answer → List ℕ → List Entry → List calls.Answer
answers_in a v t = elim (eqb a.result 0) [ true ↦ [] | false ↦ answer_in a v t ∷ [] ]

-- ---- the reaction

-- the server with no round and no call open
abbrev pub idled : cluster.Server → cluster.Server
idled s =
    record {
      stored = s.stored;
      volatile =
          record {
            role = s.volatile.role;
            votes = s.volatile.votes;
            last_round = s.volatile.last_round;
            rounds = map (λ r. none) s.volatile.rounds;
            calls = map (λ c. none) s.volatile.calls;
          };
      stopped = s.stopped;
    }

abbrev pub moved_server : ℕ → ℕ → Move → Tables → calls.Words → cluster.Server → cluster.Server
moved_server n b m t words s = put_cell s b (front_in n m.local.head) (cell_in n m.local (copy_after m t) (work_after m t) words)

unfoldable pub server_after : ℕ → ℕ → Move → Tables → calls.Words → cluster.Server → cluster.Server
server_after n b m t words s =
    elim m.ceases [ true ↦ idled (moved_server n b m t words s) | false ↦ moved_server n b m t words s ]

unfoldable pub answers_after : Move → List ℕ → List Entry → cluster.Server → List calls.Answer
answers_after m v u s =
    elim m.ceases [ true ↦ elim m.forgets [ true ↦ [] | false ↦ endings s.volatile.calls ] | false ↦ answers_in m.answer v u ]

abbrev pub reaction_in : ℕ → ℕ → ℕ → Asked → Move → Tables → calls.Words → List ℕ → List Entry → cluster.Server → Reaction
reaction_in n me b a m t words v u s = reaction (server_after n b m t words s) (sends_in n me b a m t) (answers_after m v u s)
