-- Replies (RULES, Rounds), by the round alone. The laws in proofs/ tie what comes of one to the move of crate `moves` that it stands for.
use Rattle.std.specs.Prelude.{Bool, true, false, [], ℕ, eqb, if◌then◌else◌}
use Rattle.model.specs.Leader.{closes, fails}
use Rattle.server.specs.declared.Round.{Round}
use Rattle.server.specs.declared.Message.{Message}
use Rattle.server.specs.declared.Counted.{Counted}
use Rattle.server.specs.Views.{open_in, round_in}
use Rattle.rounds.specs.Rounds.{pick_version, no_version, counted_of, matching}
use Rattle.moves.specs.declared.Local.{Local}
use Rattle.moves.specs.declared.Move.{Move}
use Rattle.moves.specs.Moves.{quiet, with_round, fetching, closed_move, ceased_move}
use Rattle.server_requests.specs.declared.Outcome.{Outcome}
use Rattle.server_requests.specs.declared.Outcome.TheVariants.{Unmatched, Waiting, Closed, Failed}
use Rattle.server_requests.specs.declared.Replied.{Replied}

-- ---- counting

-- what comes of a round that a reply was counted in
unfoldable pub outcome_of : ℕ → Round → Outcome
outcome_of n r = if closes n (open_in n r []) then Closed else (if fails n (open_in n r []) then Failed else Waiting)

-- the round with the reply counted, and what comes of it
abbrev pub replied_with : ℕ → Counted → Replied
replied_with n k = record { round = k.round; better = k.better; outcome = outcome_of n k.round }

-- a reply to another round leaves this one as it is
unfoldable pub count_reply : ℕ → Message → ℕ → Bool → Round → Replied
count_reply n m mark reports r =
    elim (matching m.election m.round (round_in n r [])) [
      | true ↦ replied_with n (counted_of n m.sender mark (pick_version reports m.version no_version) r)
      | false ↦ record { round = r; better = false; outcome = Unmatched }
    ]

-- ---- the move that it stands for

unfoldable pub replied_move : ℕ → ℕ → Local → Replied → Move
replied_move me result l k =
    elim k.outcome [
      | Unmatched ↦ quiet l
      | Waiting ↦ fetching k.better (quiet (with_round k.round l))
      | Closed ↦ fetching k.better (closed_move me result (with_round k.round l))
      | Failed ↦ ceased_move l
    ]

-- whether a checking round closes, so that the call's effect on the table is asked for
unfoldable pub closes_check : Replied → Bool
closes_check k = elim k.outcome [ Unmatched ↦ false | Waiting ↦ false | Closed ↦ eqb k.round.purpose 3 | Failed ↦ false ]
