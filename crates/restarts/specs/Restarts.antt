-- Cuts and starts (RULES, Restarts), number by number. The laws in proofs/ tie them to the definitions of the stores that a
-- message makes (crates/model/specs/Stores.antt) and of lines (`cut_server`, `restarted` in crates/model/specs/Lines.antt).
use Rattle.std.specs.Prelude.{Bool, true, false, [], ℕ, eqb, ltb, leb, replicate, if◌then◌else◌}
use Rattle.model.specs.Replica.{may_accept}
use Rattle.server.specs.declared.Head.{Head}
use Rattle.server.specs.declared.Message.{Message}
use Rattle.server.specs.Views.{stored_in, chosen, is_broadcast}
use Rattle.server.specs.Heads.{voting_head}
use Rattle.rounds.specs.Rounds.{pick_version, no_version}
use Rattle.moves.specs.declared.Filling.TheVariants as filling
use Rattle.moves.specs.declared.Keeping.TheVariants as keeping
use Rattle.moves.specs.declared.Local.{Local}
use Rattle.moves.specs.declared.Move.{Move}
use Rattle.moves.specs.Moves.{local_of, no_answer, with_head, stores, stopped_head}

-- ---- starts

-- neither leader nor candidate, and rounds numbered from 1 again; number, vote and leader as they were
abbrev pub restarted_head : Head → Head
restarted_head h =
    record { number = h.number; vote = h.vote; leader = h.leader; role = 0; last = 0; stopped = 0; votes = replicate 7 0 }

-- its calls are forgotten, and nobody is told
unfoldable pub restarted_move : Local → Move
restarted_move l =
    record {
      local = with_head (restarted_head l.head) l;
      sends = 0;
      written = no_version;
      fills = filling.Stays;
      keeps = keeping.Stays;
      answer = no_answer;
      ceases = true;
      forgets = true;
    }

-- ---- the stores of a message of kind 1, 4 or 7

-- a vote that stands there already is not stored again
unfoldable pub changes_vote : ℕ → ℕ → Head → Bool
changes_vote e p h = elim (eqb e h.vote) [ false ↦ true | true ↦ elim (eqb p h.leader) [ true ↦ false | false ↦ true ] ]

-- whether it makes the vote's store, and the bucket's
unfoldable pub stores_vote : Message → Head → Bool
stores_vote m h =
    elim (eqb m.kind 1) [
      | true ↦ ltb h.vote m.election
      | false ↦
          elim (may_accept m.election (stored_in h [])) [ false ↦ false | true ↦ changes_vote m.election m.sender h ]
    ]

unfoldable pub stores_bucket : Message → Local → Bool
stores_bucket m l =
    elim (eqb m.kind 4) [
      | false ↦ false
      | true ↦
          elim (may_accept m.election (stored_in l.head [])) [ false ↦ false | true ↦ stores m.version l ]
    ]

-- how many that are
unfoldable pub stores_made : Bool → Bool → ℕ
stores_made vote bucket = elim vote [ true ↦ chosen bucket 2 1 | false ↦ chosen bucket 1 0 ]

-- ---- cuts

-- whether the message can be cut after k stores; 18 is given where this is false
unfoldable pub cuttable : ℕ → Message → Local → Bool
cuttable k m l =
    elim (is_broadcast m.kind) [ false ↦ false | true ↦ leb k (stores_made (stores_vote m l.head) (stores_bucket m l)) ]

-- whether the vote's store is among the first k, and the bucket's
unfoldable pub votes_by : ℕ → Message → Head → Bool
votes_by k m h = elim (stores_vote m h) [ false ↦ false | true ↦ leb 1 k ]

unfoldable pub keeps_by : ℕ → Message → Local → Bool
keeps_by k m l = elim (stores_bucket m l) [ false ↦ false | true ↦ leb (stores_made (stores_vote m l.head) true) k ]

unfoldable pub cut_head : ℕ → Message → Head → Head
cut_head k m h = elim (votes_by k m h) [ true ↦ voting_head m.election m.sender h | false ↦ h ]

-- stopped after the first k stores
unfoldable pub cut_move : ℕ → Message → Local → Move
cut_move k m l =
    record {
      local = local_of (stopped_head (cut_head k m l.head)) (pick_version (keeps_by k m l) m.version l.version) l.round l.call;
      sends = 0;
      written = no_version;
      fills = filling.Stays;
      keeps = if keeps_by k m l then keeping.Message else keeping.Stays;
      answer = no_answer;
      ceases = false;
      forgets = false;
    }
