-- The rules of a leader for a call, at one bucket: the model's definitions (crates/model/specs/Leader.antt) on a front and a cell.
use Rattle.std.specs.Prelude.{List, [], ◌++◌, true, false, ℕ, ◌+◌, set, replicate}
use Rattle.std.proofs.Math.Option.{none, some}
use Rattle.entries.specs.Entries.{Entry}
use Rattle.model.specs.Calls.{Words, Result, done, Effect, answers, writes, effect}
use Rattle.model.specs.Cluster.{version, above, Copy, copy_of, Purpose, recovery_read, recovery_write, check, own_write, silent, acknowledged, Round, Server, Message}
use Rattle.model.specs.Replica.{Request, reading, writing, request_body}
use Rattle.model.specs.Leader.{Reaction, cease, fails, broadcast, is_own, report_to, one_more, closes, answer_of, recovered, straight}
use Rattle.cells.specs.Cells.{Front, Cell, put_cell, Move, lift}

abbrev pub still : Front → Cell → Move
still f c = record { front = f; cell = c; sends = []; answers = [] }

abbrev pub after_sends : List Message → Move → Move
after_sends ms m = record { front = m.front; cell = m.cell; sends = ms ++ m.sends; answers = m.answers }

unfoldable pub finishing : Result → Front → Cell → Move
finishing r f c = record { front = f; cell = record { copy = c.copy; round = none; call = none }; sends = []; answers = answer_of r c.call }

-- what the sender itself stores of a request
unfoldable pub keeping : Request → Copy → Copy
keeping reading old = old
keeping (writing c) old = elim (above c.version old.version) [ true ↦ c | false ↦ old ]

abbrev pub round_for : ℕ → ℕ → Purpose → Front → Cell → Round
round_for n me u f c =
    record {
      number = f.last_round + 1;
      election = f.number;
      purpose = u;
      marks = set (replicate n silent) me acknowledged;
      best = report_to u c.copy;
    }

abbrev pub front_after : ℕ → Front → Front
front_after me f =
    record {
      number = f.number;
      vote = f.number;
      leader = me;
      role = f.role;
      votes = f.votes;
      last_round = f.last_round + 1;
      stopped = f.stopped;
    }

abbrev pub cell_after : ℕ → ℕ → Purpose → Request → Front → Cell → Cell
cell_after n me u q f c = record { copy = keeping q c.copy; round = some (round_for n me u f c); call = one_more (is_own u) c.call }

unfoldable pub opening_round : ℕ → ℕ → ℕ → Purpose → Request → (Front → Cell → Move) → Front → Cell → Move
opening_round n me b u q next f c =
    let ms = broadcast n me b f.number (f.last_round + 1) (request_body q) in
    elim (closes n (round_for n me u f c)) [
      | true ↦ after_sends ms (next (front_after me f) (cell_after n me u q f c))
      | false ↦ record { front = front_after me f; cell = cell_after n me u q f c; sends = ms; answers = [] }
    ]

unfoldable pub doing : ℕ → ℕ → ℕ → Effect → Front → Cell → Move
doing n me b (answers r) f c = finishing r f c
doing n me b (writes t) f c = opening_round n me b own_write (writing (copy_of (version f.number (c.copy.version.counter + 1)) t)) (finishing done) f c

unfoldable pub after_reading : ℕ → ℕ → ℕ → Front → Cell → Move
after_reading n me b f c = elim c.call [ none ↦ still f c | some k ↦ doing n me b (effect k.words c.copy.table) f c ]

unfoldable pub checking_round : ℕ → ℕ → ℕ → Front → Cell → Move
checking_round n me b f c = opening_round n me b check reading (after_reading n me b) f c

unfoldable pub recovery_of : ℕ → ℕ → ℕ → List Entry → Front → Cell → Move
recovery_of n me b t f c = opening_round n me b recovery_write (writing (copy_of (version f.number 1) t)) (checking_round n me b) f c

unfoldable pub reading_bucket : ℕ → ℕ → ℕ → Front → Cell → Move
reading_bucket n me b f c =
    elim (recovered f.number c.copy) [
      | true ↦ checking_round n me b f c
      | false ↦ opening_round n me b recovery_read reading (recovery_of n me b c.copy.table) f c
    ]

-- what follows a round that closed
unfoldable pub closing : ℕ → ℕ → ℕ → Round → Front → Cell → Move
closing n me b r f c =
    elim r.purpose [
      | recovery_read ↦ recovery_of n me b r.best.table f c
      | recovery_write ↦ checking_round n me b f c
      | check ↦ after_reading n me b f c
      | own_write ↦ finishing done f c
    ]

-- the first round of a call: its own write at once, or that of READ
unfoldable pub starting_call : ℕ → ℕ → ℕ → Words → Front → Cell → Move
starting_call n me b w f c = elim (straight f.number w c.copy) [ some t ↦ doing n me b (writes t) f c | none ↦ reading_bucket n me b f c ]

-- a call is taken
unfoldable pub beginning : ℕ → ℕ → ℕ → ℕ → Words → Front → Cell → Move
beginning n me b i w f c =
    starting_call n me b w f (record { copy = c.copy; round = c.round; call = some (record { number = i; words = w; rounds = 0; sent = false }) })

-- what becomes of a round with a reply counted: the call goes on at this bucket, or the round failed and the server ceases to lead
pub data Counting : Type 0 where
  goes_on : Move → Counting
  failed : Counting

unfoldable pub counting_reply : ℕ → ℕ → ℕ → Round → Front → Cell → Counting
counting_reply n me b r f c =
    let d : Cell = record { copy = c.copy; round = some r; call = c.call } in
    elim (closes n r) [ true ↦ goes_on (closing n me b r f d) | false ↦ elim (fails n r) [ true ↦ failed | false ↦ goes_on (still f d) ] ]

unfoldable pub reaction_to : Server → ℕ → Front → Cell → Counting → Reaction
reaction_to s b f c (goes_on m) = lift s b m
reaction_to s b f c failed = cease (put_cell s b f c)
