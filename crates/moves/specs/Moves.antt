-- What each step makes of a server's head and of one slot, number by number. The laws in proofs/ tie each to the
-- definition of the same name (crates/model/specs/Leader.antt). A number that is raised wraps at 2 ^ 32.
use Rattle.std.specs.Prelude.{Bool, true, false, [], ℕ, eqb, ltb, leb, replicate, if◌then◌else◌}
use Rattle.model.specs.Cluster as cluster
use Rattle.model.specs.Replica.{grants, may_accept}
use Rattle.model.specs.Leader.{acts, closes, fails}
use Rattle.server.specs.declared.Version.{Version}
use Rattle.server.specs.declared.Head.{Head}
use Rattle.server.specs.declared.Round.{Round}
use Rattle.server.specs.declared.Call.{Call}
use Rattle.server.specs.declared.Answer.{Answer}
use Rattle.server.specs.declared.Counted.{Counted}
use Rattle.server.specs.declared.Message.{Message}
use Rattle.server.specs.declared.Handling.{Handling}
use Rattle.server.specs.declared.Handling.TheVariants.{Vote, Request, Reply, Other}
use Rattle.server.specs.Views.{role_in, version_in, stored_in, open_in, round_in, chosen}
use Rattle.server.specs.Heads.{voting_head, after_vote_head, ceased_head, elected_head, on_ack_vote_head}
use Rattle.rounds.specs.Rounds.{pick_version, no_version, round_with, new_round_of, opened_head, counted_of, matching}
use Rattle.open_calls.specs.Calls.{one_more_of, answer_with, version_of, next_version_of}
use Rattle.rounds.specs.Kinds.{handling_in}
use Rattle.moves.specs.declared.Filling.TheVariants as filling
use Rattle.moves.specs.declared.Keeping.TheVariants as keeping
use Rattle.moves.specs.declared.Local.{Local}
use Rattle.moves.specs.declared.Move.{Move}

-- ---- no round, no call, no answer

abbrev pub no_round : Round
no_round = round_with 0 0 0 no_version (replicate 7 0)

abbrev pub no_call : Call
no_call = record { kind = 0; number = 0; rounds = 0; sent = 0 }

abbrev pub no_answer : Answer
no_answer = record { call = 0; result = 0; rounds = 0 }

abbrev pub local_of : Head → Version → Round → Call → Local
local_of h v r c = record { head = h; version = v; round = r; call = c }

abbrev pub with_head : Head → Local → Local
with_head h l = local_of h l.version l.round l.call

abbrev pub with_round : Round → Local → Local
with_round r l = local_of l.head l.version r l.call

abbrev pub with_call : Call → Local → Local
with_call c l = local_of l.head l.version l.round c

-- a step that sends a message and does nothing else: kind 0 sends nothing
abbrev pub sending : ℕ → Version → Local → Move
sending kind v l = record { local = l; sends = kind; written = v; fills = filling.Stays; keeps = keeping.Stays; answer = no_answer; ceases = false; forgets = false }

abbrev pub quiet : Local → Move
quiet l = sending 0 no_version l

-- ---- rounds of a call; `me` is the server's own number

-- a round that reads, of purpose 1 or 3: a recovery read works on the sender's own content at first
unfoldable pub reading_move : ℕ → ℕ → Local → Move
reading_move me purpose l =
    record {
      local = local_of (opened_head me l.head) l.version (new_round_of me purpose l.head l.version) (one_more_of false l.call);
      sends = 7;
      written = no_version;
      fills = if eqb purpose 1 then filling.Copy else filling.Stays;
      keeps = keeping.Stays;
      answer = no_answer;
      ceases = false;
      forgets = false;
    }

-- whether version v is stored over the one of the copy
abbrev pub stores : Version → Local → Bool
stores v l = cluster.above (version_in v) (version_in l.version)

-- a round that writes the working content under version v, of purpose 2 or 4: a call's own write works on its new table
unfoldable pub writing_move : ℕ → ℕ → Version → Local → Move
writing_move me purpose v l =
    record {
      local =
          local_of (opened_head me l.head) (pick_version (stores v l) v l.version) (new_round_of me purpose l.head l.version) (one_more_of (eqb purpose 4) l.call);
      sends = 4;
      written = v;
      fills = if eqb purpose 4 then filling.Table else filling.Stays;
      keeps = if stores v l then keeping.Working else keeping.Stays;
      answer = no_answer;
      ceases = false;
      forgets = false;
    }

-- the call ends with a result
unfoldable pub finished_move : ℕ → Local → Move
finished_move result l =
    record {
      local = local_of l.head l.version no_round no_call;
      sends = 0;
      written = no_version;
      fills = filling.Stays;
      keeps = keeping.Stays;
      answer = answer_with l.call result;
      ceases = false;
      forgets = false;
    }

-- ---- calls

-- the own write, under the next version
abbrev pub own_write_move : ℕ → Local → Move
own_write_move me l = writing_move me 4 (next_version_of l.head.number l.version) l

-- what follows READ, by the result of the call's effect: 0 where a new table is to be written
unfoldable pub after_read_move : ℕ → ℕ → Local → Move
after_read_move me result l = elim (eqb result 0) [ true ↦ own_write_move me l | false ↦ finished_move result l ]

abbrev pub recovery_move : ℕ → Local → Move
recovery_move me l = writing_move me 2 (version_of l.head.number 1) l

-- what follows the round of this slot, once it closed
unfoldable pub closed_move : ℕ → ℕ → Local → Move
closed_move me result l =
    elim (eqb l.round.purpose 1) [
      | true ↦ recovery_move me l
      | false ↦
          elim (eqb l.round.purpose 2) [
            | true ↦ reading_move me 3 l
            | false ↦
                elim (eqb l.round.purpose 3) [ true ↦ after_read_move me result l | false ↦ finished_move 3 l ]
          ]
    ]

abbrev pub recovered : Local → Bool
recovered l = eqb l.version.election l.head.number

-- the first round of a call among several servers, which waits for replies, by the result of the call's effect: where that is 0 a new
-- table is to be written, on a recovered copy at once
unfoldable pub started_move : ℕ → ℕ → Local → Move
started_move me result l =
    elim (recovered l) [
      | true ↦ elim (eqb result 0) [ true ↦ own_write_move me l | false ↦ reading_move me 3 l ]
      | false ↦ reading_move me 1 l
    ]

-- READ of a server alone: its own replies close each round at once
unfoldable pub recovered_alone : ℕ → Local → Local
recovered_alone me l = elim (recovered l) [ true ↦ l | false ↦ (recovery_move me (reading_move me 1 l).local).local ]

abbrev pub read_alone : ℕ → Local → Local
read_alone me l = (reading_move me 3 (recovered_alone me l)).local

-- what a server alone does before its own write: nothing where its copy is recovered, otherwise it reads
unfoldable pub ready_alone : ℕ → Local → Local
ready_alone me l = elim (recovered l) [ true ↦ l | false ↦ read_alone me l ]

-- the whole call of a server alone: of its rounds only what they store is left, and nobody is sent anything
unfoldable pub alone_move : ℕ → ℕ → Local → Move
alone_move me result l =
    elim (eqb result 0) [
      | false ↦ finished_move result (read_alone me l)
      | true ↦
          let w = own_write_move me (ready_alone me l) in
          record {
            local = (finished_move 3 w.local).local;
            sends = 0;
            written = no_version;
            fills = w.fills;
            keeps = w.keeps;
            answer = (finished_move 3 w.local).answer;
            ceases = false;
            forgets = false;
          }
    ]

abbrev pub new_call : ℕ → ℕ → Call
new_call kind i = record { kind = kind; number = i; rounds = 0; sent = 0 }

-- call i, of words of this kind, is taken at one of n servers
unfoldable pub begun_move : ℕ → ℕ → ℕ → ℕ → ℕ → Local → Move
begun_move n me i kind result l =
    elim (leb n 1) [ true ↦ alone_move me result (with_call (new_call kind i) l) | false ↦ started_move me result (with_call (new_call kind i) l) ]

-- ---- what the line of a call needs of its effect

-- the kinds of calls that may write: `set`, `setif` and `del`
unfoldable pub may_write : ℕ → Bool
may_write kind = elim (ltb kind 2) [ true ↦ false | false ↦ leb kind 4 ]

-- whether the line of a call needs the call's effect: with one server, which ends the call there, and on a recovered copy for a call
-- that may write
unfoldable pub needs_effect : ℕ → ℕ → Local → Bool
needs_effect n kind l = elim (leb n 1) [ true ↦ true | false ↦ elim (recovered l) [ true ↦ may_write kind | false ↦ false ] ]

-- ---- when leading ends

-- the move with its server neither leader nor candidate, and all its calls ended
abbrev pub ceasing : Move → Move
ceasing m =
    record {
      local = with_head (ceased_head m.local.head) m.local;
      sends = m.sends;
      written = m.written;
      fills = m.fills;
      keeps = m.keeps;
      answer = m.answer;
      ceases = true;
      forgets = m.forgets;
    }

-- a leader or candidate whose vote rises above its own number ceases; a follower is left alone
unfoldable pub stepped_down : Move → Move
stepped_down m =
    elim (acts (role_in m.local.head.role)) [
      | false ↦ m
      | true ↦ elim (ltb m.local.head.number m.local.head.vote) [ true ↦ ceasing m | false ↦ m ]
    ]

-- ---- replies to rounds

-- the move with the message's content as working content, where it is the best one reported
unfoldable pub fetching : Bool → Move → Move
fetching better m =
    record {
      local = m.local;
      sends = m.sends;
      written = m.written;
      fills = if better then filling.Message else m.fills;
      keeps = m.keeps;
      answer = m.answer;
      ceases = m.ceases;
      forgets = m.forgets;
    }

-- a round k with a reply counted: it closes, fails or stays open
unfoldable pub counted_move : ℕ → ℕ → ℕ → Counted → Local → Move
counted_move n me result k l =
    elim (closes n (open_in n k.round [])) [
      | true ↦ fetching k.better (closed_move me result (with_round k.round l))
      | false ↦
          elim (fails n (open_in n k.round [])) [ true ↦ ceasing (quiet l) | false ↦ fetching k.better (quiet (with_round k.round l)) ]
    ]

-- a reply that does not belong to the round of this slot changes nothing; `report` is the version that it reports
unfoldable pub reply_move : ℕ → ℕ → ℕ → ℕ → Version → Message → Local → Move
reply_move n me result mark report m l =
    elim (matching m.election m.round (round_in n l.round [])) [
      | true ↦ counted_move n me result (counted_of n m.sender mark report l.round) l
      | false ↦ quiet l
    ]

-- ---- what others ask of a server, as a voter and as a replica

-- PLEASEVOTE is answered by ACKVOTE or NACKVOTE
unfoldable pub vote_move : Message → Local → Move
vote_move m l =
    stepped_down
    (sending (chosen (grants m.election m.sender (stored_in l.head [])) 2 3) no_version (with_head (after_vote_head m.election m.sender l.head) l))

-- a read that is accepted reports the copy
abbrev pub read_request_move : Message → Local → Move
read_request_move m l = sending 8 l.version (with_head (voting_head m.election m.sender l.head) l)

-- a write that is accepted is stored only if its version is above the stored one; it is acknowledged in either case
abbrev pub write_request_move : Message → Local → Move
write_request_move m l =
    record {
      local = local_of (voting_head m.election m.sender l.head) (pick_version (stores m.version l) m.version l.version) l.round l.call;
      sends = 5;
      written = no_version;
      fills = filling.Stays;
      keeps = if stores m.version l then keeping.Message else keeping.Stays;
      answer = no_answer;
      ceases = false;
      forgets = false;
    }

unfoldable pub request_move : Bool → Message → Local → Move
request_move writes m l =
    elim (may_accept m.election (stored_in l.head [])) [
      | false ↦ sending (chosen writes 6 9) no_version l
      | true ↦
          stepped_down (elim writes [ true ↦ write_request_move m l | false ↦ read_request_move m l ])
    ]

-- ACKVOTE counts for a candidate; NACKVOTE is ignored
unfoldable pub voting_move : ℕ → ℕ → Message → Local → Move
voting_move n kind m l =
    elim (eqb kind 1) [
      | true ↦ vote_move m l
      | false ↦
          elim (eqb kind 2) [ true ↦ quiet (with_head (on_ack_vote_head n m.sender m.election l.head) l) | false ↦ quiet l ]
    ]

-- ---- the handling of a message, by its kind

unfoldable pub handling_move : ℕ → ℕ → ℕ → Message → Local → Handling → Move
handling_move n me result m l (Vote kind) = voting_move n kind m l
handling_move n me result m l (Request writes) = request_move writes m l
handling_move n me result m l (Reply mark reports) = reply_move n me result mark (pick_version reports m.version no_version) m l
handling_move n me result m l Other = quiet l

unfoldable pub handled_move : ℕ → ℕ → ℕ → Message → Local → Move
handled_move n me result m l = handling_move n me result m l (handling_in m.kind)

-- whether a message closes the checking round of this slot, so that the call's effect on the table is asked for
unfoldable pub reads_by : ℕ → Message → Local → Handling → Bool
reads_by n m l (Vote kind) = false
reads_by n m l (Request writes) = false
reads_by n m l (Reply mark reports) =
    elim (eqb l.round.purpose 3) [
      | false ↦ false
      | true ↦
          elim (matching m.election m.round (round_in n l.round [])) [
            | false ↦ false
            | true ↦
                closes n (open_in n (counted_of n m.sender mark (pick_version reports m.version no_version) l.round).round [])
          ]
    ]
reads_by n m l Other = false

unfoldable pub reads_table : ℕ → Message → Local → Bool
reads_table n m l = reads_by n m l (handling_in m.kind)

-- ---- lines that name a server

-- leadership and candidacy end, and PLEASEVOTE is sent
unfoldable pub elected_move : ℕ → ℕ → Local → Move
elected_move n me l =
    record {
      local = with_head (elected_head n me l.head) l;
      sends = 1;
      written = no_version;
      fills = filling.Stays;
      keeps = keeping.Stays;
      answer = no_answer;
      ceases = true;
      forgets = false;
    }

abbrev pub ceased_move : Local → Move
ceased_move l = ceasing (quiet l)

abbrev pub stopped_head : Head → Head
stopped_head h =
    record { number = h.number; vote = h.vote; leader = h.leader; role = h.role; last = h.last; stopped = 1; votes = h.votes }

abbrev pub stopped_move : Local → Move
stopped_move l = quiet (with_head (stopped_head l.head) l)
