-- A round that a move opens stands for the one that the definitions of crates/model open, at a front and a cell.
use mathlib.Core.Path.{◌≡◌, refl, sym, ap, ap₂, ◌∙◌}
use mathlib.Core.Bool.{Bool, true, false, cond}
use mathlib.Core.List.{List, [], map}
use mathlib.Core.Option.{Option, some}
use Prim.Native.Nat.{ℕ, zero, suc, ◌+◌, ◌≤◌, ◌<◌, ◌%◌, ◌^◌, min}
use native.Mathlib.Nat.{mod-eq_of_lt}
use native.Mathlib.Omega.{arith}
use borrow.Author.Tests.{lt-leb}
use lib.Dec.{eqb}
use lib.ListN.{take, set, replicate}
use Rattle.entries.specs.Entries.{Entry}
use Rattle.model.specs.Measures.{majority}
use Rattle.model.specs.Calls as calls
use Rattle.model.specs.Cluster as cluster
use Rattle.model.specs.Replica.{Request, reading, writing, request_body}
use Rattle.model.specs.Leader.{reaction, endings, acknowledgements, closes, broadcast, one_more, is_own, report_to, answer_of}
use Rattle.model.proofs.Majorities.{majority_half}
use Rattle.cells.specs.Cells.{Front, Cell}
use Rattle.cells.specs.Cells as cells
use Rattle.cells.specs.Moves.{finishing, keeping, round_for, front_after, cell_after, opening_round}
use Rattle.server.specs.declared.Version.{Version}
use Rattle.server.specs.Views.{mark_in, purpose_in, copy_in, among, round_in, call_in, result_in}
use Rattle.server.proofs.Counting.{set_viewed, replicate_viewed}
use Rattle.rounds.specs.Rounds.{opened_head, reported, pick_version, pick_table}
use Rattle.open_calls.specs.Calls.{one_more_of, version_of, next_version_of}
use Rattle.open_calls.proofs.CallLaws.{one_more_means}
use Rattle.moves.specs.declared.Local.{Local}
use Rattle.moves.specs.declared.Keeping.TheVariants as keeping
use Rattle.moves.specs.declared.Move.{Move}
use Rattle.moves.specs.Moves.{reading_move, stores, writing_move, finished_move, own_write_move, recovery_move}
use Rattle.moves.specs.Reactions.{front_in, best_in, cell_in, Tables, Asked, work_after, copy_after, sends_in, answers_in, idled, moved_server, server_after, answers_after, reaction_in}

-- ---- whether a new round closes

none_yet : (n : ℕ) → acknowledgements (replicate n cluster.silent) ≡ 0
unfolding acknowledgements
none_yet zero = refl
none_yet (suc n) = none_yet n

own_mark : (n me : ℕ) → me < n → acknowledgements (set (replicate n cluster.silent) me cluster.acknowledged) ≡ 1
unfolding acknowledgements
own_mark zero me h = absurd (omega arith)
own_mark (suc n) zero h = ap suc (none_yet n)
own_mark (suc n) (suc me) h = own_mark n me (omega arith)

-- several servers need more than one acknowledgement
several : (n : ℕ) → 2 ≤ n → 1 < majority n
several n lo = omega (arith, majority_half n)

stays_open : (n me : ℕ) (u : cluster.Purpose) (f : Front) (c : Cell) → 2 ≤ n → me < n → closes n (round_for n me u f c) ≡ false
unfolding closes
stays_open n me u f c lo mine = rw (closes, own_mark n me mine) (lt-leb _ _ (several n lo))

-- ---- the view of a new round

marks_viewed : (n me : ℕ) → n ≤ 7 → map mark_in (take n (set (replicate 7 0) me 1)) ≡ set (replicate n cluster.silent) me cluster.acknowledged
unfolding mark_in
marks_viewed n me hi =
    let e : min 7 n ≡ n = omega arith in
    set_viewed mark_in n (replicate 7 0) me 1 ∙ ap (λ l. set l me cluster.acknowledged) (replicate_viewed mark_in 0 n 7 ∙ ap (λ k. replicate k cluster.silent) e)

-- a round made under e for u, numbered k, with these marks and this best copy
abbrev made : ℕ → cluster.Purpose → cluster.Copy → ℕ → List cluster.Mark → Option cluster.Round
made e u best k marks = some (record { number = k; election = e; purpose = u; marks = marks; best = best })

-- a cell with a local's version and call, whatever its round
abbrev pub cell_with : Option cluster.Round → Local → List Entry → calls.Words → Cell
cell_with o l copy words = record { copy = copy_in l.version copy; round = o; call = call_in l.call words }

-- what is stored of a write, as the version and the table that are picked
abbrev copy_picked : Version → List Entry → List Entry → Local → cluster.Copy
copy_picked v table copy l = copy_in (pick_version (stores v l) v l.version) (pick_table (stores v l) table copy)

kept_written : (v : Version) (table copy : List Entry) (l : Local)
    → keeping (writing (copy_in v table)) (copy_in l.version copy) ≡ copy_picked v table copy l
unfolding keeping pick_version pick_table
kept_written v table copy l =
    elim (stores v l) as
    (λ z. ◌≡◌ {A = cluster.Copy} (elim z [ true ↦ copy_in v table | false ↦ copy_in l.version copy ])
    (copy_in (pick_version z v l.version) (pick_table z table copy)))
    [ true ↦ refl | false ↦ refl ]

module _ (n me : ℕ) (l : Local) (hi : n ≤ 7) (last : l.head.last + 1 < 2 ^ 32) where
  pub front_opened : front_after me (front_in n l.head) ≡ front_in n (opened_head me l.head)
  front_opened = rw (mod-eq_of_lt last)

  -- the cell of a new round, with this copy afterwards
  cell_opened : (own : Bool) (u : cluster.Purpose) (best copy : cluster.Copy) (words : calls.Words) → l.call.rounds + 1 < 2 ^ 32
      → ◌≡◌ {A = Cell}
      (record { copy = copy; round = made l.head.number u best (l.head.last + 1) (set (replicate n cluster.silent) me cluster.acknowledged); call = one_more own (call_in l.call words) })
      (record { copy = copy; round = made l.head.number u best ((l.head.last + 1) % 2 ^ 32) (map mark_in (take n (set (replicate 7 0) me 1))); call = call_in (one_more_of own l.call) words })
  cell_opened own u best copy words rounds = rw (mod-eq_of_lt last, marks_viewed n me hi, one_more_means own l.call words rounds)

  pub recovery_read_cell : (o : Option cluster.Round) (copy : List Entry) (words : calls.Words) → l.call.rounds + 1 < 2 ^ 32
      → cell_after n me cluster.recovery_read reading (front_in n l.head) (cell_with o l copy words) ≡ cell_in n (reading_move me 1 l).local copy copy words
  unfolding keeping is_own reading_move report_to round_in among best_in reported pick_version pick_table purpose_in
  recovery_read_cell o copy words rounds =
      let c : cluster.Copy = copy_in l.version copy in
      cell_opened false cluster.recovery_read c c words rounds

  pub check_cell : (o : Option cluster.Round) (copy work : List Entry) (words : calls.Words) → l.call.rounds + 1 < 2 ^ 32
      → cell_after n me cluster.check reading (front_in n l.head) (cell_with o l copy words) ≡ cell_in n (reading_move me 3 l).local copy work words
  unfolding keeping is_own reading_move report_to round_in among best_in reported pick_version pick_table purpose_in
  check_cell o copy work words rounds =
      cell_opened false cluster.check cluster.fresh_copy (copy_in l.version copy) words rounds

  -- the same for a round that writes
  cell_written : (own : Bool) (u : cluster.Purpose) (v : Version) (table copy : List Entry) (words : calls.Words) → l.call.rounds + 1 < 2 ^ 32
      → ◌≡◌ {A = Cell}
      (record {
        copy = keeping (writing (copy_in v table)) (copy_in l.version copy);
        round = made l.head.number u cluster.fresh_copy (l.head.last + 1) (set (replicate n cluster.silent) me cluster.acknowledged);
        call = one_more own (call_in l.call words);
      })
      (record {
        copy = copy_picked v table copy l;
        round = made l.head.number u cluster.fresh_copy ((l.head.last + 1) % 2 ^ 32) (map mark_in (take n (set (replicate 7 0) me 1)));
        call = call_in (one_more_of own l.call) words;
      })
  cell_written own u v table copy words rounds = rw (kept_written v table copy l) (cell_opened own u cluster.fresh_copy (copy_picked v table copy l) words rounds)

  pub recovery_write_cell : (o : Option cluster.Round) (v : Version) (table copy work : List Entry) (words : calls.Words) → l.call.rounds + 1 < 2 ^ 32
      → cell_after n me cluster.recovery_write (writing (copy_in v table)) (front_in n l.head) (cell_with o l copy words)
      ≡ cell_in n (writing_move me 2 v l).local (pick_table (stores v l) table copy) work words
  unfolding is_own writing_move report_to round_in among best_in reported pick_version pick_table purpose_in
  recovery_write_cell o v table copy work words rounds = cell_written false cluster.recovery_write v table copy words rounds

  pub own_write_cell : (o : Option cluster.Round) (v : Version) (table copy work : List Entry) (words : calls.Words) → l.call.rounds + 1 < 2 ^ 32
      → cell_after n me cluster.own_write (writing (copy_in v table)) (front_in n l.head) (cell_with o l copy words)
      ≡ cell_in n (writing_move me 4 v l).local (pick_table (stores v l) table copy) work words
  unfolding is_own writing_move report_to round_in among best_in reported pick_version pick_table purpose_in
  own_write_cell o v table copy work words rounds = cell_written true cluster.own_write v table copy words rounds

-- ---- moves at a cell

-- what a move that does not cease stands for at a cell
abbrev pub move_in : ℕ → ℕ → ℕ → Asked → Move → Tables → calls.Words → List ℕ → List Entry → cells.Move
move_in n me b a m t words v u =
    record {
      front = front_in n m.local.head;
      cell = cell_in n m.local (copy_after m t) (work_after m t) words;
      sends = sends_in n me b a m t;
      answers = answers_in m.answer v u;
    }

pub lifted : (n me b : ℕ) (a : Asked) (m : Move) (t : Tables) (words : calls.Words) (v : List ℕ) (u : List Entry) (s : cluster.Server)
    → m.ceases ≡ false → cells.lift s b (move_in n me b a m t words v u) ≡ reaction_in n me b a m t words v u s
unfolding server_after answers_after
lifted n me b a m t words v u s e =
    ap (λ z. reaction (elim z as (λ y. cluster.Server) [ true ↦ idled (moved_server n b m t words s) | false ↦ moved_server n b m t words s ]) (sends_in n me b a m t)
    (elim z as (λ y. List calls.Answer) [ true ↦ elim m.forgets as (λ y. List calls.Answer) [ true ↦ [] | false ↦ endings s.volatile.calls ] | false ↦ answers_in m.answer v u ]))
    (sym e)

-- of two moves that end no leadership, the chosen one ends none
pub either_leads : (z : Bool) (x y : Move) → x.ceases ≡ false → y.ceases ≡ false → (elim z as (λ w. Move) [ true ↦ x | false ↦ y ]).ceases ≡ false
either_leads true x y e h = e
either_leads false x y e h = h

-- ---- rounds of several servers wait for replies

waits : (n me b : ℕ) (u : cluster.Purpose) (q : Request) (next : Front → Cell → cells.Move) (f : Front) (c : Cell) → 2 ≤ n → me < n
    → opening_round n me b u q next f c
    ≡ record { front = front_after me f; cell = cell_after n me u q f c; sends = broadcast n me b f.number (f.last_round + 1) (request_body q); answers = [] }
unfolding opening_round
waits n me b u q next f c lo mine = rw (opening_round, stays_open n me u f c lo mine)

-- the copy's table after a write, by whether it is stored
pub stored_table : (z : Bool) (t : Tables) (w : List Entry)
    → ◌≡◌ {A = List Entry} (elim (cond z keeping.Working keeping.Stays) [ keeping.Stays ↦ t.copy | keeping.Working ↦ w | keeping.Message ↦ t.message ]) (pick_table z w t.copy)
unfolding pick_table
stored_table true t w = refl
stored_table false t w = refl

-- the number of the new round is sent with it
moved : (n me b : ℕ) (q : Request) (l : Local) → l.head.last + 1 < 2 ^ 32 → {f g : Front} {c d : Cell} → f ≡ g → c ≡ d
    → ◌≡◌ {A = cells.Move}
    (record { front = f; cell = c; sends = broadcast n me b l.head.number (l.head.last + 1) (request_body q); answers = [] })
    (record { front = g; cell = d; sends = broadcast n me b l.head.number ((l.head.last + 1) % 2 ^ 32) (request_body q); answers = [] })
moved n me b q l last e h =
    rw (mod-eq_of_lt last)
    (ap₂ (λ f c. record { front = f; cell = c; sends = broadcast n me b l.head.number (l.head.last + 1) (request_body q); answers = [] }) e h)

module _ (n me b : ℕ) (a : Asked) (l : Local) (t : Tables) (words : calls.Words) (v : List ℕ) (u : List Entry) (o : Option cluster.Round) (next : Front → Cell → cells.Move)
    (lo : 2 ≤ n) (hi : n ≤ 7) (mine : me < n) (last : l.head.last + 1 < 2 ^ 32) (rounds : l.call.rounds + 1 < 2 ^ 32) where
  pub recovery_read_waits : opening_round n me b cluster.recovery_read reading next (front_in n l.head) (cell_with o l t.copy words)
      ≡ move_in n me b a (reading_move me 1 l) t words v u
  unfolding reading_move copy_after work_after sends_in answers_in request_body
  recovery_read_waits =
      waits n me b cluster.recovery_read reading next (front_in n l.head) (cell_with o l t.copy words) lo mine
      ∙ moved n me b reading l last (front_opened n me l hi last) (recovery_read_cell n me l hi last o t.copy words rounds)

  pub check_waits : opening_round n me b cluster.check reading next (front_in n l.head) (cell_with o l t.copy words)
      ≡ move_in n me b a (reading_move me 3 l) t words v u
  unfolding reading_move copy_after work_after sends_in answers_in request_body
  check_waits =
      waits n me b cluster.check reading next (front_in n l.head) (cell_with o l t.copy words) lo mine
      ∙ moved n me b reading l last (front_opened n me l hi last) (check_cell n me l hi last o t.copy t.work words rounds)

  -- a recovery writes the working table
  pub recovery_write_waits :
      opening_round n me b cluster.recovery_write (writing (cluster.copy_of (cluster.version l.head.number 1) t.work)) next (front_in n l.head) (cell_with o l t.copy words)
      ≡ move_in n me b a (recovery_move me l) t words v u
  unfolding writing_move copy_after work_after sends_in answers_in request_body
  recovery_write_waits =
      let w = version_of l.head.number 1 in
      let q = writing (copy_in w t.work) in
      waits n me b cluster.recovery_write q next (front_in n l.head) (cell_with o l t.copy words) lo mine
      ∙ moved n me b q l last (front_opened n me l hi last)
      (recovery_write_cell n me l hi last o w t.work t.copy t.work words rounds
      ∙ ap (λ c. cell_in n (recovery_move me l).local c t.work words) (sym (stored_table (stores w l) t t.work)))

  -- a call's own write writes the new table
  pub own_write_waits : l.version.counter + 1 < 2 ^ 32
      → opening_round n me b cluster.own_write (writing (cluster.copy_of (cluster.version l.head.number (l.version.counter + 1)) t.made)) next (front_in n l.head) (cell_with o l t.copy words)
      ≡ move_in n me b a (own_write_move me l) t words v u
  unfolding writing_move copy_after work_after sends_in answers_in request_body
  own_write_waits counter =
      let w = next_version_of l.head.number l.version in
      let q = writing (copy_in w t.made) in
      ap (λ k. opening_round n me b cluster.own_write (writing (cluster.copy_of (cluster.version l.head.number k) t.made)) next (front_in n l.head) (cell_with o l t.copy words)) (sym (mod-eq_of_lt counter))
      ∙ (waits n me b cluster.own_write q next (front_in n l.head) (cell_with o l t.copy words) lo mine
      ∙ moved n me b q l last (front_opened n me l hi last)
      (own_write_cell n me l hi last o w t.made t.copy t.made words rounds
      ∙ ap (λ c. cell_in n (own_write_move me l).local c t.made words) (sym (stored_table (stores w l) t t.made))))

-- ---- the end of a call

-- an open call is answered
pub finished : (n me b : ℕ) (a : Asked) (result : ℕ) (l : Local) (t : Tables) (words : calls.Words) (v : List ℕ) (u : List Entry) (o : Option cluster.Round)
    → among 5 l.call.kind ≡ true → eqb result 0 ≡ false
    → finishing (result_in result v u) (front_in n l.head) (cell_with o l t.copy words) ≡ move_in n me b a (finished_move result l) t words v u
unfolding among finishing finished_move answer_of call_in copy_after work_after sends_in answers_in round_in
finished n me b a result l t words v u o live e = rw (call_in, live, answers_in, e)
