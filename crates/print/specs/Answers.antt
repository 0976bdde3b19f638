-- What an answer by value stands for.
use Rattle.std.specs.Prelude.{List, [], map, ℕ, take}
use Rattle.std.proofs.Math.Option.{none, some}
use Rattle.entries.specs.Decoded.{key_bytes, value_bytes}
use Rattle.model.specs.Calls.{Result, value, listed, done, mismatch, full, notdone, unknown}
use Rattle.model.specs.Calls.{Answer}
use Rattle.model.specs.Print.{word_of}
use Rattle.print.specs.declared.ResultWord.{ResultWord}
use Rattle.print.specs.declared.ResultWord.TheVariants as O
use Rattle.print.specs.declared.KeyList.{KeyList}
use Rattle.print.specs.declared.AnswerLine.{AnswerLine}

-- a count above the room counts as all of it
unfoldable pub keys_in : KeyList → List (List ℕ)
keys_in l = take l.count (map key_bytes l.keys)

-- the result of a kind with its value or keys; what the kind does not use is not looked at
unfoldable pub result_for : ResultWord → List ℕ → List (List ℕ) → Result
result_for O.Value v l = value (some v)
result_for O.Keys v l = listed l
result_for O.Done v l = done
result_for O.Mismatch v l = mismatch
result_for O.Full v l = full
result_for O.NotDone v l = notdone
result_for O.Unknown v l = unknown
result_for O.Absent v l = value none

unfoldable pub answer_in : AnswerLine → Answer
answer_in a = record { call = a.call; result = result_for a.word (value_bytes a.value) (keys_in a.keys); rounds = a.rounds }

-- the word of a result, whatever its value or keys
unfoldable pub word_for : ResultWord → List ℕ
word_for o = word_of (result_for o [] [])
