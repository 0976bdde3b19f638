-- What comes of a reply, counted once, stands for the move that crate `moves` makes of it.
use mathlib.Core.Path.{◌≡◌, refl, sym, ap, ap₂, ◌∙◌}
use mathlib.Core.Bool.{Bool, true, false, cond}
use mathlib.Core.List.{[]}
use Prim.Native.Nat.{ℕ}
use lib.Dec.{eqb}
use lib.ListN.{get_or, take}
use Rattle.model.specs.Leader.{closes, fails}
use Rattle.server.specs.declared.Counted.{Counted}
use Rattle.server.specs.declared.Message.{Message}
use Rattle.server.specs.declared.Handling.TheVariants.{Reply}
use Rattle.server.specs.Views.{mark_in, among, open_in, round_in}
use Rattle.rounds.specs.Rounds.{is_silent, pick_version, no_version, counted_of, matching}
use Rattle.rounds.specs.Kinds.{handling_in}
use Rattle.moves.specs.declared.Local.{Local}
use Rattle.moves.specs.declared.Move.{Move}
use Rattle.moves.specs.Moves.{quiet, with_round, fetching, closed_move, ceased_move, counted_move, reply_move, handling_move, handled_move, reads_by, reads_table}
use Rattle.server.specs.declared.Round.{Round}
use Rattle.server_requests.specs.declared.Outcome.TheVariants.{Unmatched, Waiting, Closed, Failed}
use Rattle.server_requests.specs.declared.Replied.{Replied}
use Rattle.server_requests.specs.Replies.{outcome_of, replied_with, count_reply, replied_move, closes_check}

-- the four kinds of replies to a round: the mark that each stands for, and whether it reports a copy
pub four_kinds : (handling_in 5 ≡ Reply 1 false) × ((handling_in 6 ≡ Reply 2 false) × ((handling_in 8 ≡ Reply 1 true) × (handling_in 9 ≡ Reply 2 false)))
unfolding handling_in among
four_kinds = (refl, (refl, (refl, refl)))

-- ---- the move

-- by the two tests: whether the round closes, and whether it fails
outcome_moves : (me result : ℕ) (k : Counted) (l : Local) (x y : Bool)
    → (elim x as (λ _. Move) [
      | true ↦ fetching k.better (closed_move me result (with_round k.round l))
      | false ↦ elim y [ true ↦ ceased_move l | false ↦ fetching k.better (quiet (with_round k.round l)) ]
    ])
    ≡ replied_move me result l (record { round = k.round; better = k.better; outcome = cond x Closed (cond y Failed Waiting) })
unfolding replied_move
outcome_moves me result k l true y = refl
outcome_moves me result k l false true = refl
outcome_moves me result k l false false = refl

counted_moves : (n me result : ℕ) (k : Counted) (l : Local) → counted_move n me result k l ≡ replied_move me result l (replied_with n k)
unfolding counted_move outcome_of
counted_moves n me result k l = outcome_moves me result k l (closes n (open_in n k.round [])) (fails n (open_in n k.round []))

-- ---- the four moves

module _ (me result : ℕ) (l : Local) (k : Replied) where
  pub unmatched_moves : k.outcome ≡ Unmatched → replied_move me result l k ≡ quiet l
  unfolding replied_move
  unmatched_moves e = rw e refl

  pub waiting_moves : k.outcome ≡ Waiting → replied_move me result l k ≡ fetching k.better (quiet (with_round k.round l))
  unfolding replied_move
  waiting_moves e = rw e refl

  pub closed_moves : k.outcome ≡ Closed → replied_move me result l k ≡ fetching k.better (closed_move me result (with_round k.round l))
  unfolding replied_move
  closed_moves e = rw e refl

  pub failed_moves : k.outcome ≡ Failed → replied_move me result l k ≡ ceased_move l
  unfolding replied_move
  failed_moves e = rw e refl

-- ---- tests

closed_outcome : (x y : Bool) (r : Round) (better : Bool) → closes_check (record { round = r; better = better; outcome = cond x Closed (cond y Failed Waiting) }) ≡ elim x [ true ↦ eqb r.purpose 3 | false ↦ false ]
unfolding closes_check
closed_outcome true y r better = refl
closed_outcome false true r better = refl
closed_outcome false false r better = refl

both : (p z : Bool) → ◌≡◌ {A = Bool} (elim p [ false ↦ false | true ↦ z ]) (elim z [ true ↦ p | false ↦ false ])
both true true = refl
both true false = refl
both false true = refl
both false false = refl

neither : (p : Bool) → ◌≡◌ {A = Bool} (elim p [ false ↦ false | true ↦ false ]) false
neither true = refl
neither false = refl

-- ---- a reply, by the round of its slot

module _ (n : ℕ) (m : Message) (l : Local) (mark : ℕ) (reports : Bool) where
  abbrev matched : Bool
  matched = matching m.election m.round (round_in n l.round [])

  abbrev counted : Counted
  counted = counted_of n m.sender mark (pick_version reports m.version no_version) l.round

  reply_moves : (me result : ℕ) (x : Bool) → matched ≡ x
      → reply_move n me result mark (pick_version reports m.version no_version) m l ≡ replied_move me result l (count_reply n m mark reports l.round)
  unfolding reply_move count_reply replied_move
  reply_moves me result true e = rw (reply_move, count_reply, e) (counted_moves n me result counted l)
  reply_moves me result false e = rw (reply_move, count_reply, e)

  -- the handling of a reply is the move of what comes of it
  pub reply_handled : (me result : ℕ) → handling_in m.kind ≡ Reply mark reports → handled_move n me result m l ≡ replied_move me result l (count_reply n m mark reports l.round)
  unfolding handled_move handling_move
  reply_handled me result e = rw (handled_move, e) (reply_moves me result matched refl)

  -- ---- when the table is read

  counted_purpose : (x : Bool) → is_silent (mark_in (get_or (take n l.round.marks) m.sender 2)) ≡ x → counted.round.purpose ≡ l.round.purpose
  unfolding counted_of
  counted_purpose true e = rw (counted_of, e)
  counted_purpose false e = rw (counted_of, e)

  -- counting leaves the round's purpose
  purpose_by : (x : Bool) → matched ≡ x → (count_reply n m mark reports l.round).round.purpose ≡ l.round.purpose
  unfolding count_reply
  purpose_by true e = rw (count_reply, e) (counted_purpose _ refl)
  purpose_by false e = rw (count_reply, e)

  pub reply_keeps_purpose : (count_reply n m mark reports l.round).round.purpose ≡ l.round.purpose
  reply_keeps_purpose = purpose_by matched refl

  -- the definition's tests, by whether the reply is one to this round
  abbrev reads_where : Bool → Bool
  reads_where x =
      elim (eqb l.round.purpose 3) [
        | false ↦ false
        | true ↦ elim x [ false ↦ false | true ↦ closes n (open_in n counted.round []) ]
      ]

  reads_where_lem : (x : Bool) → matched ≡ x → reads_by n m l (Reply mark reports) ≡ reads_where x
  unfolding reads_by
  reads_where_lem x e = ap reads_where e

  check_closed : closes_check (replied_with n counted) ≡ elim (closes n (open_in n counted.round [])) [ true ↦ eqb l.round.purpose 3 | false ↦ false ]
  unfolding outcome_of
  check_closed =
      let k = counted in
      closed_outcome (closes n (open_in n k.round [])) (fails n (open_in n k.round [])) k.round k.better
      ∙ ap (λ p. elim (closes n (open_in n k.round [])) as (λ _. Bool) [ true ↦ eqb p 3 | false ↦ false ]) (counted_purpose _ refl)

  checks_by : (x : Bool) → matched ≡ x → reads_where x ≡ closes_check (count_reply n m mark reports l.round)
  unfolding count_reply closes_check
  checks_by true e = rw (count_reply, e) (both (eqb l.round.purpose 3) (closes n (open_in n counted.round [])) ∙ sym check_closed)
  checks_by false e = rw (count_reply, e) (neither (eqb l.round.purpose 3))

  -- the call's effect on the table is asked for exactly where a checking round closes
  pub reads_on_closing : handling_in m.kind ≡ Reply mark reports → reads_table n m l ≡ closes_check (count_reply n m mark reports l.round)
  unfolding reads_table
  reads_on_closing e = rw (reads_table, e) (reads_where_lem matched refl ∙ checks_by matched refl)
