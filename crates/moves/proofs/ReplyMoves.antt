-- A reply to a round, as a move: what follows a round that closes, and what a counted reply makes of a round.
use mathlib.Core.Path.{◌≡◌, refl, sym, ap, ap₂, ◌∙◌}
use mathlib.Core.Bool.{Bool, true, false}
use mathlib.Core.List.{List, []}
use mathlib.Core.Option.{Option, none, some}
use Prim.Native.Nat.{ℕ, ◌+◌, ◌≤◌, ◌<◌, ◌^◌}
use native.Mathlib.Omega.{arith}
use lib.Dec.{eqb}
use lib.ListN.{get_or, take, set}
use Rattle.entries.specs.Entries.{Entry}
use Rattle.entries.specs.Decoded.{value_bytes, table_in}
use Rattle.model.specs.Calls as calls
use Rattle.model.specs.Cluster as cluster
use Rattle.model.specs.Cluster.{round_at}
use Rattle.model.specs.Leader.{Reaction, cease, closes, fails, on_reply, counting, counted}
use Rattle.cells.specs.Cells.{Cell, put_cell}
use Rattle.cells.specs.Cells as cells
use Rattle.cells.specs.Moves.{still, after_reading, checking_round, recovery_of, closing, counting_reply, reaction_to}
use Rattle.cells.proofs.Laws.{counting_is}
use Rattle.server.specs.declared.Version.{Version}
use Rattle.server.specs.declared.Round.{Round}
use Rattle.server.specs.declared.Counted.{Counted}
use Rattle.server.specs.declared.Effect.{Effect}
use Rattle.server.specs.declared.Message.{Message}
use Rattle.server.specs.declared.Handling.TheVariants.{Reply}
use Rattle.server.specs.Views.{purpose_in, version_in, copy_in, among, open_in, round_in, mark_in, result_in, effect_in}
use Rattle.rounds.specs.Rounds.{no_version, pick_version, pick_table, improves, is_silent, counted_with, counted_of, matching}
use Rattle.rounds.proofs.RoundLaws.{fresh_below, counted_means, matching_shut, unmatched, matched}
use Rattle.moves.specs.declared.Local.{Local}
use Rattle.moves.specs.declared.Move.{Move}
use Rattle.moves.specs.Moves.{with_round, quiet, reading_move, writing_move, finished_move, own_write_move, after_read_move}
use Rattle.moves.specs.Moves.{recovery_move, closed_move, ceasing, fetching, counted_move, reply_move, reads_by}
use Rattle.moves.specs.Reactions.{front_in, best_in, cell_in, Seen, Tables, Asked, work_after, copy_after, sends_in, answers_in, reaction_in}
use Rattle.moves.proofs.Ceasing.{seen_itself, quiet_means, ceasing_means}
use Rattle.moves.proofs.Opening.{cell_with, move_in, lifted, either_leads, check_waits, recovery_write_waits, finished}
use Rattle.moves.proofs.CallMoves.{after_read_means}

-- ---- the best table of a round

best_recovered : (r : Round) (w : List Entry) → eqb r.purpose 1 ≡ true → best_in r w ≡ w
unfolding best_in pick_table
best_recovered r w e = rw (best_in, pick_table, e)

best_unread : (r : Round) (w : List Entry) → eqb r.purpose 1 ≡ false → best_in r w ≡ []
unfolding best_in pick_table
best_unread r w e = rw (best_in, pick_table, e)

-- ---- what follows a round that closed

module _ (n me b : ℕ) (a : Asked) (l : Local) (t : Tables) (words : calls.Words) (f : Effect) (o : Option cluster.Round)
    (lo : 2 ≤ n) (hi : n ≤ 7) (mine : me < n) (live : among 5 l.call.kind ≡ true) (made : t.made ≡ table_in f.table)
    (last : l.head.last + 1 < 2 ^ 32) (rounds : l.call.rounds + 1 < 2 ^ 32) (counter : l.version.counter + 1 < 2 ^ 32)
    (reads : eqb l.round.purpose 3 ≡ true → effect_in f ≡ calls.effect words t.copy) where
  closing_by : (x y z : Bool) → eqb l.round.purpose 1 ≡ x → eqb l.round.purpose 2 ≡ y → eqb l.round.purpose 3 ≡ z
      → closing n me b (open_in n l.round (best_in l.round t.work)) (front_in n l.head) (cell_with o l t.copy words)
      ≡ move_in n me b a (closed_move me f.result l) t words (value_bytes f.value) (table_in f.table)
  unfolding closing purpose_in closed_move recovery_of checking_round result_in
  closing_by true y z e h i =
      rw (closing, purpose_in, closed_move, e, best_recovered l.round t.work e)
      (recovery_write_waits n me b a l t words (value_bytes f.value) (table_in f.table) o (checking_round n me b) lo hi mine last rounds)
  closing_by false true z e h i =
      rw (closing, purpose_in, closed_move, e, h)
      (check_waits n me b a l t words (value_bytes f.value) (table_in f.table) o (after_reading n me b) lo hi mine last rounds)
  closing_by false false true e h i =
      rw (closing, purpose_in, closed_move, e, h, i)
      (after_read_means n me b a l t words f o lo hi mine live made last rounds counter (reads i))
  closing_by false false false e h i =
      rw (closing, purpose_in, closed_move, e, h, i)
      (finished n me b a 3 l t words (value_bytes f.value) (table_in f.table) o live refl)

  closing_means : closing n me b (open_in n l.round (best_in l.round t.work)) (front_in n l.head) (cell_with o l t.copy words)
      ≡ move_in n me b a (closed_move me f.result l) t words (value_bytes f.value) (table_in f.table)
  closing_means = closing_by (eqb l.round.purpose 1) (eqb l.round.purpose 2) (eqb l.round.purpose 3) refl refl refl

-- what follows ends no leadership
closed_leads : (me result : ℕ) (l : Local) → (closed_move me result l).ceases ≡ false
unfolding closed_move after_read_move reading_move writing_move finished_move
closed_leads me result l =
    let p = l.round.purpose in
    let after = either_leads (eqb result 0) (own_write_move me l) (finished_move result l) refl refl in
    let third = either_leads (eqb p 3) (after_read_move me result l) (finished_move 3 l) after refl in
    either_leads (eqb p 1) (recovery_move me l) (elim (eqb p 2) [ true ↦ reading_move me 3 l | false ↦ elim (eqb p 3) [ true ↦ after_read_move me result l | false ↦ finished_move 3 l ] ]) refl
    (either_leads (eqb p 2) (reading_move me 3 l) (elim (eqb p 3) [ true ↦ after_read_move me result l | false ↦ finished_move 3 l ]) refl third)

-- ---- content fetched from a message

-- the tables with the message's content as working content
abbrev fetched_into : Bool → Tables → Tables
fetched_into better t = record { copy = t.copy; work = pick_table better t.message t.work; made = t.made; message = t.message }

module _ (n me b : ℕ) (a : Asked) (l : Local) (t : Tables) (words : calls.Words) (v : List ℕ) (u : List Entry) where
  fetched_quiet : (better : Bool) → move_in n me b a (quiet l) (fetched_into better t) words v u ≡ move_in n me b a (fetching better (quiet l)) t words v u
  unfolding fetching work_after copy_after sends_in pick_table
  fetched_quiet true = refl
  fetched_quiet false = refl

  -- only a recovery fetches
  fetched_closed : (result : ℕ) (better : Bool) → (better ≡ true → eqb l.round.purpose 1 ≡ true)
      → move_in n me b a (closed_move me result l) (fetched_into better t) words v u ≡ move_in n me b a (fetching better (closed_move me result l)) t words v u
  unfolding fetching work_after copy_after sends_in pick_table closed_move writing_move
  fetched_closed result true h = rw (closed_move, h refl)
  fetched_closed result false h = refl

-- ---- a counted reply

-- by whether the sender had no mark
abbrev counted_as : Bool → ℕ → ℕ → Version → Round → Counted
counted_as z q mark report r =
    let better = improves r.purpose report r.best in
    elim z [ true ↦ counted_with r (set r.marks q mark) (pick_version better report r.best) better | false ↦ record { round = r; better = false } ]

counted_purpose : (n q mark : ℕ) (report : Version) (r : Round) → (counted_of n q mark report r).round.purpose ≡ r.purpose
unfolding counted_of
counted_purpose n q mark report r =
    elim (is_silent (mark_in (get_or (take n r.marks) q 2))) as (λ z. (counted_as z q mark report r).round.purpose ≡ r.purpose) [ true ↦ refl | false ↦ refl ]

-- a copy is better only where its version improves on the best
better_improves : (n q mark : ℕ) (report : Version) (r : Round) → (counted_of n q mark report r).better ≡ true → improves r.purpose report r.best ≡ true
unfolding counted_of
better_improves n q mark report r =
    elim (is_silent (mark_in (get_or (take n r.marks) q 2))) as (λ z. (counted_as z q mark report r).better ≡ true → improves r.purpose report r.best ≡ true)
    [ true ↦ λ h. h | false ↦ λ h. let z : ◌≡◌ {A = ℕ} 0 1 = cc in absurd (omega arith) ]

-- only a recovery read is improved on
improves_recovery : (p : ℕ) (report best : Version) (z : Bool) → eqb p 1 ≡ z → improves p report best ≡ true → eqb p 1 ≡ true
unfolding improves
improves_recovery p report best true e h = e
improves_recovery p report best false e h = let i : improves p report best ≡ false = rw (improves, e) in let z : ◌≡◌ {A = ℕ} 0 1 = cc in absurd (omega arith)

-- a reply that reports nothing improves on nothing
improves_reports : (reports : Bool) (p : ℕ) (v best : Version) (z : Bool) → eqb p 1 ≡ z → improves p (pick_version reports v no_version) best ≡ true → reports ≡ true
unfolding pick_version improves
improves_reports true p v best z e h = refl
improves_reports false p v best true e h =
    let i : improves p no_version best ≡ false = rw (improves, e) (fresh_below (version_in best)) in let z : ◌≡◌ {A = ℕ} 0 1 = cc in absurd (omega arith)
improves_reports false p v best false e h = let i : improves p no_version best ≡ false = rw (improves, e) in let z : ◌≡◌ {A = ℕ} 0 1 = cc in absurd (omega arith)

-- the table picked of what is reported is the best one of the counted round
best_picked : (reports better : Bool) (r k : Round) (message work : List Entry) (z : Bool) → eqb r.purpose 1 ≡ z → k.purpose ≡ r.purpose
    → (better ≡ true → eqb r.purpose 1 ≡ true) → (better ≡ true → reports ≡ true)
    → pick_table better (pick_table reports message []) (best_in r work) ≡ best_in k (pick_table better message work)
unfolding pick_table
best_picked reports true r k message work z e same h i =
    rw (i refl) (sym (best_recovered k message (ap (λ p. eqb p 1) same ∙ h refl)))
best_picked reports false r k message work true e same h i = best_recovered r work e ∙ sym (best_recovered k work (ap (λ p. eqb p 1) same ∙ e))
best_picked reports false r k message work false e same h i = best_unread r work e ∙ sym (best_unread k work (ap (λ p. eqb p 1) same ∙ e))

module _ (n q mark : ℕ) (reports : Bool) (v : Version) (r : Round) where
  -- the round with the reply counted
  abbrev counts : Counted
  counts = counted_of n q mark (pick_version reports v no_version) r

  better_recovers : counts.better ≡ true → eqb r.purpose 1 ≡ true
  better_recovers h =
      let report = pick_version reports v no_version in
      improves_recovery r.purpose report r.best (eqb r.purpose 1) refl (better_improves n q mark report r h)

  better_reports : counts.better ≡ true → reports ≡ true
  better_reports h =
      improves_reports reports r.purpose v r.best (eqb r.purpose 1) refl (better_improves n q mark (pick_version reports v no_version) r h)

  counted_seen : (message work : List Entry)
      → counted q (mark_in mark) (copy_in (pick_version reports v no_version) (pick_table reports message [])) (open_in n r (best_in r work))
      ≡ open_in n counts.round (best_in counts.round (pick_table counts.better message work))
  counted_seen message work =
      let report = pick_version reports v no_version in
      sym (counted_means n q mark report r (best_in r work) (pick_table reports message []))
      ∙ ap (open_in n counts.round)
      (best_picked reports counts.better r counts.round message work (eqb r.purpose 1) refl (counted_purpose n q mark report r) better_recovers better_reports)

-- ---- a reply that counts

-- a round that is open
round_open : (n : ℕ) (r : Round) (t : List Entry) → among 4 r.purpose ≡ true → round_in n r t ≡ some (open_in n r t)
unfolding round_in
round_open n r t e = rw (round_in, e)

module _ (n me b : ℕ) (a : Asked) (s : cluster.Server) (l : Local) (t : Tables) (words : calls.Words) (f : Effect) (k : Counted)
    (lo : 2 ≤ n) (hi : n ≤ 7) (mine : me < n) (seen : Seen n b s l t.copy t.work words)
    (opened : among 4 k.round.purpose ≡ true) (live : among 5 l.call.kind ≡ true) (made : t.made ≡ table_in f.table)
    (last : l.head.last + 1 < 2 ^ 32) (rounds : l.call.rounds + 1 < 2 ^ 32) (counter : l.version.counter + 1 < 2 ^ 32)
    (recovers : k.better ≡ true → eqb k.round.purpose 1 ≡ true)
    (reads : eqb k.round.purpose 3 ≡ true → closes n (open_in n k.round []) ≡ true → effect_in f ≡ calls.effect words t.copy) where
  -- the counted round, and what the server is seen as
  abbrev now : cluster.Round
  now = open_in n k.round (best_in k.round (pick_table k.better t.message t.work))

  abbrev cell_before : Cell
  cell_before = cell_in n l t.copy t.work words

  abbrev reaction_of : Move → Reaction
  reaction_of m = reaction_in n me b a m t words (value_bytes f.value) (table_in f.table) s

  closes_so : closes n (open_in n k.round []) ≡ true
      → cells.lift s b (closing n me b now (front_in n l.head) (record { copy = cell_before.copy; round = some now; call = cell_before.call }))
      ≡ reaction_of (fetching k.better (closed_move me f.result (with_round k.round l)))
  unfolding fetching
  closes_so e =
      let w = with_round k.round l in
      let v = value_bytes f.value in
      let u = table_in f.table in
      ap (cells.lift s b)
      (closing_means n me b a w (fetched_into k.better t) words f (some now) lo hi mine live made last rounds counter (λ h. reads h e)
      ∙ fetched_closed n me b a w t words v u f.result k.better recovers)
      ∙ lifted n me b a (fetching k.better (closed_move me f.result w)) t words v u s (closed_leads me f.result w)

  waits_so : cells.lift s b (still (front_in n l.head) (record { copy = cell_before.copy; round = some now; call = cell_before.call }))
      ≡ reaction_of (fetching k.better (quiet (with_round k.round l)))
  unfolding fetching work_after copy_after sends_in answers_in
  waits_so =
      let w = with_round k.round l in
      let v = value_bytes f.value in
      let u = table_in f.table in
      ap (λ o. cells.lift s b (still (front_in n l.head) (record { copy = cell_before.copy; round = o; call = cell_before.call })))
      (sym (round_open n k.round (best_in k.round (pick_table k.better t.message t.work)) opened))
      ∙ (ap (cells.lift s b) (fetched_quiet n me b a w t words v u k.better) ∙ lifted n me b a (fetching k.better (quiet w)) t words v u s refl)

  fails_so : cease (put_cell s b (front_in n l.head) cell_before) ≡ reaction_of (ceasing (quiet l))
  fails_so =
      ap cease (sym (seen_itself n b s l t words seen)) ∙ ceasing_means n me b a s l t words (value_bytes f.value) (table_in f.table) seen

  counting_by : (x y : Bool) → closes n (open_in n k.round []) ≡ x → fails n (open_in n k.round []) ≡ y
      → reaction_to s b (front_in n l.head) cell_before (counting_reply n me b now (front_in n l.head) cell_before) ≡ reaction_of (counted_move n me f.result k l)
  unfolding closes fails counting_reply reaction_to counted_move
  counting_by true y e h = rw (counting_reply, counted_move, e) (closes_so e)
  counting_by false true e h = rw (counting_reply, counted_move, e, h) fails_so
  counting_by false false e h = rw (counting_reply, counted_move, e, h) waits_so

  counting_means : counting n me b now s ≡ reaction_of (counted_move n me f.result k l)
  counting_means =
      ap (counting n me b now) (seen_itself n b s l t words seen)
      ∙ (counting_is s b seen.inside n me now (front_in n l.head) cell_before
      ∙ counting_by (closes n (open_in n k.round [])) (fails n (open_in n k.round [])) refl refl)

-- ---- which replies count

-- the best table does not matter
matching_same : (n e k : ℕ) (r : Round) (t : List Entry) → matching e k (round_in n r t) ≡ matching e k (round_in n r [])
unfolding round_in matching
matching_same n e k r t =
    elim (among 4 r.purpose) as (λ z. matching e k (elim z [ true ↦ some (open_in n r t) | false ↦ none ]) ≡ matching e k (elim z [ true ↦ some (open_in n r []) | false ↦ none ]))
    [ true ↦ refl | false ↦ refl ]

matching_opened : (n e k : ℕ) (r : Round) (t : List Entry) (z : Bool) → among 4 r.purpose ≡ z → matching e k (round_in n r t) ≡ true → among 4 r.purpose ≡ true
matching_opened n e k r t true i h = i
matching_opened n e k r t false i h = let no = matching_shut n r t e k i in let z : ◌≡◌ {A = ℕ} 0 1 = cc in absurd (omega arith)

-- a reply with this mark, which reports its version and its content where `reports`
module _ (n me b : ℕ) (a : Asked) (s : cluster.Server) (l : Local) (t : Tables) (words : calls.Words) (f : Effect) (mark : ℕ) (reports : Bool) (x : Message) (m : cluster.Message)
    (lo : 2 ≤ n) (hi : n ≤ 7) (mine : me < n) (seen : Seen n b s l t.copy t.work words)
    (sender : m.sender ≡ x.sender) (election : m.election ≡ x.election) (round : m.round ≡ x.round) (bucket : m.bucket ≡ b)
    (live : among 4 l.round.purpose ≡ true → among 5 l.call.kind ≡ true)
    (reads : reads_by n x l (Reply mark reports) ≡ true → effect_in f ≡ calls.effect words t.copy) (made : t.made ≡ table_in f.table)
    (last : l.head.last + 1 < 2 ^ 32) (rounds : l.call.rounds + 1 < 2 ^ 32) (counter : l.version.counter + 1 < 2 ^ 32) where
  -- the copy that is reported
  abbrev reported : cluster.Copy
  reported = copy_in (pick_version reports x.version no_version) (pick_table reports t.message [])

  abbrev reacts_by : Move → Reaction
  reacts_by y = reaction_in n me b a y t words (value_bytes f.value) (table_in f.table) s

  abbrev count : Counted
  count = counted_of n x.sender mark (pick_version reports x.version no_version) l.round

  there : round_at s.volatile m.bucket ≡ round_in n l.round (best_in l.round t.work)
  there = ap (λ i. round_at s.volatile i) bucket ∙ ap (λ c. c.round) seen.cell

  matching_there : matching m.election m.round (round_at s.volatile m.bucket) ≡ matching x.election x.round (round_in n l.round [])
  matching_there = rw (there, election, round) (matching_same n x.election x.round l.round (best_in l.round t.work))

  same_purpose : count.round.purpose ≡ l.round.purpose
  same_purpose = counted_purpose n x.sender mark (pick_version reports x.version no_version) l.round

  reads_closed : matching x.election x.round (round_in n l.round []) ≡ true → eqb count.round.purpose 3 ≡ true → closes n (open_in n count.round []) ≡ true
      → effect_in f ≡ calls.effect words t.copy
  unfolding reads_by
  reads_closed e h i = let c : eqb l.round.purpose 3 ≡ true = sym (ap (λ p. eqb p 3) same_purpose) ∙ h in reads (rw (reads_by, c, e, i))

  counts_so : matching x.election x.round (round_in n l.round []) ≡ true → on_reply n me m (mark_in mark) reported s ≡ reacts_by (counted_move n me f.result count l)
  counts_so e =
      let opened : among 4 l.round.purpose ≡ true = matching_opened n x.election x.round l.round [] (among 4 l.round.purpose) refl e in
      let r = open_in n l.round (best_in l.round t.work) in
      let is : round_at s.volatile m.bucket ≡ some r = there ∙ round_open n l.round (best_in l.round t.work) opened in
      matched n me m (mark_in mark) reported s r is (ap (matching m.election m.round) (sym is) ∙ (matching_there ∙ e))
      ∙ (ap₂ (λ i q. counting n me i (counted q (mark_in mark) reported r) s) bucket sender
      ∙ (ap (λ y. counting n me b y s) (counted_seen n x.sender mark reports x.version l.round t.message t.work)
      ∙ counting_means n me b a s l t words f count lo hi mine seen (ap (among 4) same_purpose ∙ opened) (live opened) made last rounds counter
      (λ h. ap (λ p. eqb p 1) same_purpose ∙ better_recovers n x.sender mark reports x.version l.round h) (reads_closed e)))

  reply_by : (z : Bool) → matching x.election x.round (round_in n l.round []) ≡ z
      → on_reply n me m (mark_in mark) reported s ≡ reacts_by (reply_move n me f.result mark (pick_version reports x.version no_version) x l)
  unfolding reply_move
  reply_by true e = rw (reply_move, e) (counts_so e)
  reply_by false e =
      rw (reply_move, e)
      (unmatched n me m (mark_in mark) reported s (matching_there ∙ e) ∙ quiet_means n me b a s l t words (value_bytes f.value) (table_in f.table) seen)

  pub reply_means :
      on_reply n me m (mark_in mark) (copy_in (pick_version reports x.version no_version) (pick_table reports t.message [])) s
      ≡ reaction_in n me b a (reply_move n me f.result mark (pick_version reports x.version no_version) x l) t words (value_bytes f.value) (table_in f.table) s
  reply_means = reply_by (matching x.election x.round (round_in n l.round [])) refl
