-- A message has the new table of a call written only where it closes a checking round and the call's effect is to write.
use Rattle.std.specs.Prelude.{if◌then◌else◌}
use Rattle.std.proofs.Common.{◌≡◌, ℕ, Bool, true, false, eqb, ltb, [], get_or, take, sym, refl, ap, ◌∙◌, arith, eqb-true}
use Rattle.model.specs.Replica.{may_accept}
use Rattle.model.specs.Leader.{acts, closes, fails}
use Rattle.server.specs.declared.Version.{Version}
use Rattle.server.specs.declared.Round.{Round}
use Rattle.server.specs.declared.Counted.{Counted}
use Rattle.server.specs.declared.Message.{Message}
use Rattle.server.specs.declared.Handling.{Handling}
use Rattle.server.specs.declared.Handling.TheVariants.{Vote, Request, Reply, Other}
use Rattle.server.specs.Views.{among, mark_in, open_in, round_in, stored_in, role_in}
use Rattle.rounds.specs.Rounds.{no_version, pick_version, is_silent, counted_of, matching}
use Rattle.rounds.specs.Kinds.{handling_in}
use Rattle.moves.specs.declared.Filling.{Filling}
use Rattle.moves.specs.declared.Filling.TheVariants as filling
use Rattle.moves.specs.declared.Local.{Local}
use Rattle.moves.specs.declared.Move.{Move}
use Rattle.moves.specs.Moves.{reading_move, writing_move, finished_move, after_read_move, closed_move, with_round}
use Rattle.moves.specs.Moves.{stepped_down, fetching, counted_move, reply_move, vote_move, request_move, voting_move, handling_move, handled_move, reads_by, reads_table}

-- what holds of both cases
either : {A : Type 0} (P : A → Type 0) (t : Bool) (x y : A) → P x → P y → P (elim t [ true ↦ x | false ↦ y ])
either P true x y a b = a
either P false x y a b = b

-- what stays is no new table
pub apart : filling.Stays ≡ filling.Table → ⊥
apart h = let z : ◌≡◌ {A = ℕ} 0 1 = cc in omega arith

-- no new table
abbrev Plain : Move → Type 0
Plain v = v.fills ≡ filling.Stays

-- ---- what follows a round that closed

module _ (me result : ℕ) (l : Local) where
  -- a new table is written after a checking round, where the result is 0
  abbrev Written : Move → Type 0
  Written v = v.fills ≡ filling.Table → (eqb l.round.purpose 3 ≡ true) × (eqb result 0 ≡ true)

  plain_written : (v : Move) → v.fills ≡ filling.Stays → Written v
  plain_written v e h = absurd (apart (sym e ∙ h))

  closed_written : Written (closed_move me result l)
  closed_written = go (eqb l.round.purpose 1) refl (eqb l.round.purpose 2) refl (eqb l.round.purpose 3) refl (eqb result 0) refl
    where
      go : (x : Bool) → eqb l.round.purpose 1 ≡ x → (y : Bool) → eqb l.round.purpose 2 ≡ y → (z : Bool) → eqb l.round.purpose 3 ≡ z
          → (w : Bool) → eqb result 0 ≡ w → Written (closed_move me result l)
      go true e y d z c w a = plain_written (closed_move me result l) (unfold closed_move writing_move in rw (closed_move, e))
      go false e true d z c w a = plain_written (closed_move me result l) (unfold closed_move reading_move in rw (closed_move, e, d))
      go false e false d true c true a = λ h. (c, a)
      go false e false d true c false a = plain_written (closed_move me result l) (unfold closed_move after_read_move finished_move in rw (closed_move, e, d, c, after_read_move, a))
      go false e false d false c w a = plain_written (closed_move me result l) (unfold closed_move finished_move in rw (closed_move, e, d, c))

-- ---- a reply

-- a message's content is no new table
fetched_fills : (better : Bool) (x : Filling) → (if better then filling.Message else x) ≡ filling.Table → x ≡ filling.Table
fetched_fills true x h = let z : ◌≡◌ {A = ℕ} 0 1 = cc in absurd (omega arith)
fetched_fills false x h = h

module _ (n me result : ℕ) (l : Local) where
  counted_written : (k : Counted) → (counted_move n me result k l).fills ≡ filling.Table
      → (closes n (open_in n k.round []) ≡ true) × (eqb k.round.purpose 3 ≡ true) × (eqb result 0 ≡ true)
  counted_written k = go (closes n (open_in n k.round [])) refl (fails n (open_in n k.round [])) refl
    where
      go : (x : Bool) → closes n (open_in n k.round []) ≡ x → (y : Bool) → fails n (open_in n k.round []) ≡ y → (counted_move n me result k l).fills ≡ filling.Table
          → (closes n (open_in n k.round []) ≡ true) × (eqb k.round.purpose 3 ≡ true) × (eqb result 0 ≡ true)
      go true e y d h =
          let w = with_round k.round l in
          let g : (if k.better then filling.Message else (closed_move me result w).fills) ≡ filling.Table = unfold counted_move fetching in (rw (counted_move, e) at h) in
          let (p, z) = closed_written me result w (fetched_fills k.better (closed_move me result w).fills g) in
          (e, p, z)
      go false e true d h = let g : filling.Stays ≡ filling.Table = unfold counted_move in (rw (counted_move, e, d) at h) in absurd (apart g)
      go false e false d h =
          let g : (if k.better then filling.Message else filling.Stays) ≡ filling.Table = unfold counted_move fetching in (rw (counted_move, e, d) at h) in
          absurd (apart (fetched_fills k.better filling.Stays g))

  counted_purpose : (q mark : ℕ) (report : Version) (r : Round) → (counted_of n q mark report r).round.purpose ≡ r.purpose
  unfolding counted_of
  counted_purpose q mark report r = either (λ (k : Counted). k.round.purpose ≡ r.purpose) (is_silent (mark_in (get_or (take n r.marks) q 2))) _ _ refl refl

  module _ (m : Message) where
    -- the call's effect is asked for, and it is to write
    abbrev Asks : Handling → Type 0
    Asks x = (reads_by n m l x ≡ true) × (eqb result 0 ≡ true)

    reads_so : (mark : ℕ) (reports : Bool) → eqb l.round.purpose 3 ≡ true → matching m.election m.round (round_in n l.round []) ≡ true
        → closes n (open_in n (counted_of n m.sender mark (pick_version reports m.version no_version) l.round).round []) ≡ true → reads_by n m l (Reply mark reports) ≡ true
    unfolding reads_by
    reads_so mark reports o e c = rw (reads_by, o, e, c)

    reply_written : (mark : ℕ) (reports : Bool) → (reply_move n me result mark (pick_version reports m.version no_version) m l).fills ≡ filling.Table → Asks (Reply mark reports)
    reply_written mark reports = go (matching m.election m.round (round_in n l.round [])) refl
      where
        go : (x : Bool) → matching m.election m.round (round_in n l.round []) ≡ x
            → (reply_move n me result mark (pick_version reports m.version no_version) m l).fills ≡ filling.Table → Asks (Reply mark reports)
        go true e h =
            let report = pick_version reports m.version no_version in
            let (c, p, z) = counted_written (counted_of n m.sender mark report l.round) (unfold reply_move in (rw (reply_move, e) at h)) in
            let same = counted_purpose m.sender mark report l.round in
            (reads_so mark reports (sym (ap (λ x. eqb x 3) same) ∙ p) e c, z)
        go false e h = let g : filling.Stays ≡ filling.Table = unfold reply_move in (rw (reply_move, e) at h) in absurd (apart g)

    -- ---- other messages

    plain_stepped : (v : Move) → Plain v → Plain (stepped_down v)
    unfolding stepped_down
    plain_stepped v e = either Plain (acts (role_in v.local.head.role)) _ _ (either Plain (ltb v.local.head.number v.local.head.vote) _ _ e e) e

    plain_voting : (kind : ℕ) → Plain (voting_move n kind m l)
    unfolding voting_move vote_move
    plain_voting kind = either Plain (eqb kind 1) _ _ (plain_stepped _ refl) (either Plain (eqb kind 2) _ _ refl refl)

    plain_request : (writes : Bool) → Plain (request_move writes m l)
    unfolding request_move
    plain_request writes = either Plain (may_accept m.election (stored_in l.head [])) _ _ (plain_stepped _ (either Plain writes _ _ refl refl)) refl

    handling_written : (x : Handling) → (handling_move n me result m l x).fills ≡ filling.Table → Asks x
    unfolding handling_move
    handling_written (Vote kind) h = absurd (apart (sym (plain_voting kind) ∙ h))
    handling_written (Request writes) h = absurd (apart (sym (plain_request writes) ∙ h))
    handling_written (Reply mark reports) h = reply_written mark reports h
    handling_written Other h = absurd (apart h)

    pub handled_written : (handled_move n me result m l).fills ≡ filling.Table → (reads_table n m l ≡ true) × (eqb result 0 ≡ true)
    unfolding handled_move reads_table
    handled_written h = handling_written (handling_in m.kind) h

-- ---- a message that asks for the effect

module _ (n : ℕ) (m : Message) (l : Local) where
  reads_open : (x : Handling) → reads_by n m l x ≡ true → among 4 l.round.purpose ≡ true
  unfolding reads_by
  reads_open (Vote kind) h = let z : ◌≡◌ {A = ℕ} 0 1 = cc in absurd (omega arith)
  reads_open (Request writes) h = let z : ◌≡◌ {A = ℕ} 0 1 = cc in absurd (omega arith)
  reads_open (Reply mark reports) h = go (eqb l.round.purpose 3) refl
    where
      go : (z : Bool) → eqb l.round.purpose 3 ≡ z → among 4 l.round.purpose ≡ true
      go true e = unfold among in rw (eqb-true l.round.purpose 3 e)
      go false e = let no : reads_by n m l (Reply mark reports) ≡ false = unfold reads_by in rw (reads_by, e) in let z : ◌≡◌ {A = ℕ} 0 1 = cc in absurd (omega arith)
  reads_open Other h = let z : ◌≡◌ {A = ℕ} 0 1 = cc in absurd (omega arith)

  -- what closes a checking round finds it open
  pub reads_table_open : reads_table n m l ≡ true → among 4 l.round.purpose ≡ true
  unfolding reads_table
  reads_table_open h = reads_open (handling_in m.kind) h
