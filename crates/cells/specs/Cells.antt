-- A server seen at one bucket: its front, which all buckets share, and the cell of that bucket. The rules of a server for a call
-- touch nothing else, so the code loads and stores a front and a cell.
use Rattle.std.specs.Prelude.{List, Bool, ℕ, ◌<◌, length, set}
use Rattle.std.proofs.Math.Option.{Option}
use Rattle.model.specs.Calls.{Answer}
use Rattle.model.specs.Cluster.{Copy, copy_at, Role, Round, Call, round_at, call_at, Server, Message}
use Rattle.model.specs.Leader.{Reaction, reaction}

pub record Front : Type 0 where
  pub number : ℕ
  pub vote : ℕ
  pub leader : ℕ
  pub role : Role
  pub votes : List Bool
  pub last_round : ℕ
  pub stopped : Bool

pub record Cell : Type 0 where
  pub copy : Copy
  pub round : Option Round
  pub call : Option Call

abbrev pub front : Server → Front
front s =
    record {
      number = s.stored.number;
      vote = s.stored.vote;
      leader = s.stored.leader;
      role = s.volatile.role;
      votes = s.volatile.votes;
      last_round = s.volatile.last_round;
      stopped = s.stopped;
    }

abbrev pub cell : Server → ℕ → Cell
cell s b = record { copy = copy_at s.stored b; round = round_at s.volatile b; call = call_at s.volatile b }

-- the server with another front, and another cell at bucket b
abbrev pub put_cell : Server → ℕ → Front → Cell → Server
put_cell s b f c =
    record {
      stored = record { number = f.number; vote = f.vote; leader = f.leader; copies = set s.stored.copies b c.copy };
      volatile =
          record {
            role = f.role;
            votes = f.votes;
            last_round = f.last_round;
            rounds = set s.volatile.rounds b c.round;
            calls = set s.volatile.calls b c.call;
          };
      stopped = f.stopped;
    }

-- the server has a bucket b
pub record Inside (s : Server) (b : ℕ) : Type 0 where
  pub copies : b < length s.stored.copies
  pub rounds : b < length s.volatile.rounds
  pub calls : b < length s.volatile.calls

-- what a rule gives at one bucket
pub record Move : Type 0 where
  pub front : Front
  pub cell : Cell
  pub sends : List Message
  pub answers : List Answer

abbrev pub lift : Server → ℕ → Move → Reaction
lift s b m = reaction (put_cell s b m.front m.cell) m.sends m.answers
