-- The model's rules for a call are those of a front and a cell.
use mathlib.Core.Path.{◌≡◌, refl}
use mathlib.Core.List.{List}
use mathlib.Core.Bool.{Bool, true, false}
use mathlib.Core.Option.{Option, none, some}
use Prim.Native.Nat.{ℕ, ◌+◌}
use lib.ListN.{set}
use lib.Seq.{get_or-set_same, set-set, set-get_or}
use Rattle.entries.specs.Entries.{Entry}
use Rattle.model.specs.Calls.{Words, Result, done, Effect, answers, writes, effect}
use Rattle.model.specs.Cluster.{version, above, Copy, copy_of, fresh_copy, copy_at, Purpose, recovery_read, recovery_write, check, own_write, Round, Call, round_at, call_at, Server, Message}
use Rattle.model.specs.Replica.{Request, reading, writing, request_body, accepting, storing, voting}
use Rattle.model.specs.Leader.{Reaction, broadcast, is_own, one_more, closes, new_round, opening, open_round, finish, next_version, applying, after_read, checking, recovering, start_read, recovered, straight, start_call, closed, begin_call, with_round, fails, counting}
use Rattle.cells.specs.Cells.{Front, Cell, front, cell, put_cell, Inside, Move, lift}
use Rattle.cells.specs.Moves.{finishing, keeping, round_for, front_after, cell_after, opening_round, doing, after_reading, checking_round, recovery_of, reading_bucket, starting_call, closing, beginning, counting_reply, reaction_to}

module _ (s : Server) (b : ℕ) (h : Inside s b) where
  -- a server is its front and its cells
  pub itself : put_cell s b (front s) (cell s b) ≡ s
  itself = rw (set-get_or s.stored.copies b fresh_copy, set-get_or s.volatile.rounds b none, set-get_or s.volatile.calls b none)

  pub copy_there : (f : Front) (c : Cell) → copy_at (put_cell s b f c).stored b ≡ c.copy
  copy_there f c = get_or-set_same s.stored.copies b c.copy fresh_copy h.copies

  pub round_there : (f : Front) (c : Cell) → round_at (put_cell s b f c).volatile b ≡ c.round
  round_there f c = get_or-set_same s.volatile.rounds b c.round none h.rounds

  pub call_there : (f : Front) (c : Cell) → call_at (put_cell s b f c).volatile b ≡ c.call
  call_there f c = get_or-set_same s.volatile.calls b c.call none h.calls

  finish_is : (r : Result) (f : Front) (c : Cell) → finish b r (put_cell s b f c) ≡ lift s b (finishing r f c)
  unfolding finish finishing
  finish_is r f c = rw (call_there f c, set-set s.volatile.rounds b c.round none, set-set s.volatile.calls b c.call none)

  -- what a server stores of a request of p under e that it accepts
  pub accepted_is : (e p : ℕ) (q : Request) (f : Front) (c : Cell)
      → accepting b e p q (put_cell s b f c).stored
      ≡ record { number = f.number; vote = e; leader = p; copies = set s.stored.copies b (keeping q c.copy) }
  unfolding accepting keeping storing
  accepted_is e p reading f c = refl
  accepted_is e p (writing new) f c = go (above new.version c.copy.version) refl
    where
      there : copy_at (voting e p (put_cell s b f c).stored) b ≡ c.copy
      there = copy_there f c

      go : (x : Bool) → above new.version c.copy.version ≡ x
          → accepting b e p (writing new) (put_cell s b f c).stored
          ≡ record {
            number = f.number;
            vote = e;
            leader = p;
            copies = set s.stored.copies b (elim x as (λ _. Copy) [ true ↦ new | false ↦ c.copy ]);
          }
      go true i = rw (storing, there, i, set-set s.stored.copies b c.copy new)
      go false i = rw (storing, there, i)

  opening_is : (n me : ℕ) (u : Purpose) (q : Request) (f : Front) (c : Cell)
      → opening n me b u q (put_cell s b f c) ≡ put_cell s b (front_after me f) (cell_after n me u q f c)
  unfolding opening new_round
  opening_is n me u q f c =
      rw (accepted_is f.number me q f c, copy_there f c, call_there f c, set-set s.volatile.rounds b c.round (some (round_for n me u f c)), set-set s.volatile.calls b c.call (one_more (is_own u) c.call))

  -- a next step that is the model's at the server is one at the cell
  abbrev pub Same : (Server → Reaction) → (Front → Cell → Move) → Type 0
  Same next move = (f : Front) (c : Cell) → next (put_cell s b f c) ≡ lift s b (move f c)

  round_is : (n me : ℕ) (u : Purpose) (f : Front) (c : Cell) → new_round n me b u (put_cell s b f c) ≡ round_for n me u f c
  unfolding new_round
  round_is n me u f c = rw (copy_there f c)

  open_is : (n me : ℕ) (u : Purpose) (q : Request) (next : Server → Reaction) (move : Front → Cell → Move) → Same next move
      → Same (open_round n me b u q next) (opening_round n me b u q move)
  unfolding open_round opening_round
  open_is n me u q next move same f c = go (closes n (round_for n me u f c)) refl
    where
      ms : List Message
      ms = broadcast n me b f.number (f.last_round + 1) (request_body q)

      go : (t : Bool) → closes n (round_for n me u f c) ≡ t → open_round n me b u q next (put_cell s b f c) ≡ lift s b (opening_round n me b u q move f c)
      go true e = rw (open_round, opening_round, round_is n me u f c, e, opening_is n me u q f c, same (front_after me f) (cell_after n me u q f c))
      go false e = rw (open_round, opening_round, round_is n me u f c, e, opening_is n me u q f c)

  applying_is : (n me : ℕ) (x : Effect) → Same (applying n me b x) (doing n me b x)
  unfolding applying doing next_version
  applying_is n me (answers r) f c = finish_is r f c
  applying_is n me (writes t) f c = rw (copy_there f c) (open_is n me own_write (writing (copy_of (version f.number (c.copy.version.counter + 1)) t)) (finish b done) (finishing done) (finish_is done) f c)

  after_read_is : (n me : ℕ) → Same (after_read n me b) (after_reading n me b)
  unfolding after_read after_reading
  after_read_is n me f c = go c.call refl
    where
      go : (o : Option Call) → c.call ≡ o → after_read n me b (put_cell s b f c) ≡ lift s b (after_reading n me b f c)
      go none e = rw (after_read, after_reading, call_there f c, e)
      go (some k) e = rw (after_read, after_reading, call_there f c, e, copy_there f c) (applying_is n me (effect k.words c.copy.table) f c)

  checking_is : (n me : ℕ) → Same (checking n me b) (checking_round n me b)
  unfolding checking checking_round
  checking_is n me = open_is n me check reading (after_read n me b) (after_reading n me b) (after_read_is n me)

  recovering_is : (n me : ℕ) (t : List Entry) → Same (recovering n me b t) (recovery_of n me b t)
  unfolding recovering recovery_of
  recovering_is n me t f c = open_is n me recovery_write (writing (copy_of (version f.number 1) t)) (checking n me b) (checking_round n me b) (checking_is n me) f c

  pub read_is : (n me : ℕ) → Same (start_read n me b) (reading_bucket n me b)
  unfolding start_read reading_bucket
  read_is n me f c = go (recovered f.number c.copy) refl
    where
      go : (t : Bool) → recovered f.number c.copy ≡ t → start_read n me b (put_cell s b f c) ≡ lift s b (reading_bucket n me b f c)
      go true e = rw (start_read, reading_bucket, copy_there f c, e) (checking_is n me f c)
      go false e = rw (start_read, reading_bucket, copy_there f c, e, copy_there f c) (open_is n me recovery_read reading (recovering n me b c.copy.table) (recovery_of n me b c.copy.table) (recovering_is n me c.copy.table) f c)

  pub closed_is : (n me : ℕ) (r : Round) → Same (closed n me b r) (closing n me b r)
  unfolding closed closing
  closed_is n me r f c = go r.purpose refl
    where
      go : (u : Purpose) → r.purpose ≡ u → closed n me b r (put_cell s b f c) ≡ lift s b (closing n me b r f c)
      go recovery_read e = rw (closed, closing, e) (recovering_is n me r.best.table f c)
      go recovery_write e = rw (closed, closing, e) (checking_is n me f c)
      go check e = rw (closed, closing, e) (after_read_is n me f c)
      go own_write e = rw (closed, closing, e) (finish_is done f c)

  start_is : (n me : ℕ) (w : Words) → Same (start_call n me b w) (starting_call n me b w)
  unfolding start_call starting_call
  start_is n me w f c = go (straight f.number w c.copy) refl
    where
      go : (o : Option (List Entry)) → straight f.number w c.copy ≡ o → start_call n me b w (put_cell s b f c) ≡ lift s b (starting_call n me b w f c)
      go none e = rw (start_call, starting_call, copy_there f c, e) (read_is n me f c)
      go (some t) e = rw (start_call, starting_call, copy_there f c, e) (applying_is n me (writes t) f c)

  pub begin_is : (n me i : ℕ) (w : Words) → Same (begin_call n me b i w) (beginning n me b i w)
  unfolding begin_call beginning
  begin_is n me i w f c =
      let k : Call = record { number = i; words = w; rounds = 0; sent = false } in
      rw (set-set s.volatile.calls b c.call (some k)) (start_is n me w f (record { copy = c.copy; round = c.round; call = some k }))

  -- a reply counted: the round closes, fails or stays open
  pub counting_is : (n me : ℕ) (r : Round) (f : Front) (c : Cell)
      → counting n me b r (put_cell s b f c) ≡ reaction_to s b f c (counting_reply n me b r f c)
  unfolding counting counting_reply reaction_to
  counting_is n me r f c = go (closes n r) refl (fails n r) refl
    where
      with_it : with_round (put_cell s b f c) b r ≡ put_cell s b f (record { copy = c.copy; round = some r; call = c.call })
      with_it = rw (set-set s.volatile.rounds b c.round (some r))

      go : (t : Bool) → closes n r ≡ t → (u : Bool) → fails n r ≡ u → counting n me b r (put_cell s b f c) ≡ reaction_to s b f c (counting_reply n me b r f c)
      go true e u i = rw (counting, counting_reply, e, with_it) (closed_is n me r f (record { copy = c.copy; round = some r; call = c.call }))
      go false e true i = rw (counting, counting_reply, e, i)
      go false e false i = rw (counting, counting_reply, e, i, with_it)
