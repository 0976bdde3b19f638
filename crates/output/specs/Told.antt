-- What is printed for a line, and how far it reaches.
use Rattle.std.specs.Prelude.{◌≡◌, List, ℕ, ◌≤◌, ◌+◌, ◌*◌, length}
use Rattle.entries.specs.Entries.{Entry, keys_of}
use Rattle.entries.specs.Decoded.{key_bytes, value_bytes, table_in}
use Rattle.entries.specs.Decoded.{Key}
use Rattle.entries.specs.declared.Slot.{Slot}
use Rattle.entries.specs.declared.Decoded.{Decoded}
use Rattle.model.specs.Print.{keys_text, answer_texts}
use Rattle.server.specs.declared.Answer.{Answer}
use Rattle.server.specs.Views.{result_in}
use Rattle.print.specs.declared.ResultWord.{ResultWord}
use Rattle.print.specs.declared.KeyList.{KeyList}
use Rattle.print.specs.Answers.{keys_in, result_for}
use Rattle.print.specs.Printed.{Printed}
use Rattle.print.specs.Room.{line_room}
use Rattle.memory.specs.Layout.{answer_size}
use Rattle.memory.specs.Rows.{row}
use Rattle.views.specs.Changes.{answer_of, answers_at}
use Rattle.runs.specs.declared.Report.{Report}

-- a line's text, within the room that it may take
pub record Told (text before : List ℕ) (at : ℕ) (after : List ℕ) (p : ℕ) : Type 0 where
  pub printed : Printed text before at after p
  pub within : p ≤ at + line_room

-- the word of a result number, whatever the data
pub record ResultWordOf (x : ℕ) (o : ResultWord) : Type 0 where
  pub is : (v : List ℕ) (t : List Entry) → result_for o v (keys_of t) ≡ result_in x v t

-- the key of a slot, of at most eight bytes
pub record KeyOf (s : Slot) (k : Key) : Type 0 where
  pub is : k ≡ s.key
  pub short : length (key_bytes k) ≤ 8

-- the keys of a table, of at most 68 bytes in print
pub record KeysOf (t : Decoded) (l : KeyList) : Type 0 where
  pub is : keys_in l ≡ keys_of (table_in t)
  pub short : length (keys_text (keys_in l)) ≤ 68

-- the fields of answer i, one by one
abbrev pub answer_fields : List ℕ → ℕ → Answer
answer_fields l i = answer_of (row (i * answer_size) 0 3 l)

-- the text of the answers that a report counts
abbrev pub report_text : Report → List ℕ → List ℕ
report_text r l = answer_texts (answers_at r.answers l (value_bytes r.effect.value) (table_in r.effect.table))
