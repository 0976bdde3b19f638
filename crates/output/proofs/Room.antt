-- An answer by its words is the answer that is printed, and has room in `answer_room`.
use mathlib.Core.Path.{◌≡◌}
use mathlib.Core.List.{List}
use Prim.Native.Nat.{ℕ, ◌≤◌, ◌<◌, ◌^◌}
use native.Mathlib.Omega.{arith}
use lib.ListN.{length, length-append}
use Rattle.entries.specs.Decoded.{value_bytes, table_in}
use Rattle.entries.specs.Decoded.{Value}
use Rattle.entries.specs.declared.Decoded.{Decoded}
use Rattle.model.specs.Text.{bytes}
use Rattle.model.specs.Print.{value_text, keys_text, data_of, answer_text}
use Rattle.server.specs.declared.Answer.{Answer}
use Rattle.server.specs.Views.{answer_in}
use Rattle.print.specs.declared.ResultWord.{ResultWord}
use Rattle.print.specs.declared.ResultWord.TheVariants as O
use Rattle.print.specs.declared.KeyList.{KeyList}
use Rattle.print.specs.declared.AnswerLine.{AnswerLine}
use Rattle.print.specs.Answers as printed
use Rattle.print.specs.Room.{answer_room}
use Rattle.print.proofs.Room.{answer_room_lem}
use Rattle.output.specs.Told.{ResultWordOf, KeysOf}
use Rattle.output.proofs.Keys.{value_room}

abbrev pub with_data : Answer → ResultWord → Value → KeyList → AnswerLine
with_data a o v k = record { call = a.call; word = o; rounds = a.rounds; value = v; keys = k }

pub same_answer : (a : Answer) (o : ResultWord) (v : Value) (t : Decoded) (k : KeyList) → ResultWordOf a.result o → KeysOf t k → printed.answer_in (with_data a o v k) ≡ answer_in a (value_bytes v) (table_in t)
unfolding printed.answer_in
same_answer a o v t k named listed = rw (listed.is, named.is (value_bytes v) (table_in t))

data_room : (o : ResultWord) (v : List ℕ) (l : List (List ℕ)) → length v ≤ 16 → length (keys_text l) ≤ 68 → length (data_of (printed.result_for o v l)) ≤ 68
unfolding data_of printed.result_for value_text bytes
data_room O.Value v l h g = simp length-append (omega (arith, value_room 16 v (omega arith) h))
data_room O.Keys v l h g = g
data_room O.Done v l h g = omega arith
data_room O.Mismatch v l h g = omega arith
data_room O.Full v l h g = omega arith
data_room O.NotDone v l h g = omega arith
data_room O.Unknown v l h g = omega arith
data_room O.Absent v l h g = omega arith

pub one_room : (a : Answer) (o : ResultWord) (v : Value) (k : KeyList) → a.call < 2 ^ 32 → a.rounds < 2 ^ 32 → length (value_bytes v) ≤ 16 → length (keys_text (printed.keys_in k)) ≤ 68 → length (answer_text (printed.answer_in (with_data a o v k))) ≤ answer_room
unfolding printed.answer_in
one_room a o v k h g short keys =
    omega (arith, answer_room_lem 10 10 (printed.answer_in (with_data a o v k)) (omega arith) (omega arith) (omega arith) (omega arith), data_room o (value_bytes v) (printed.keys_in k) short keys)
