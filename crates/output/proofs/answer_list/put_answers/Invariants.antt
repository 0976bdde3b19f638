-- `answer_list::put_answers` meets its contract: answer by answer.
use Rattle.entries.specs.Decoded.{table_in, value_bytes}
use Rattle.output.proofs.Answering.{Answering}
use Rattle.output.proofs.answer_list.put_answers.Given as goal

abbrev pub invariant-loop-i : goal.invariant-loop-i
invariant-loop-i l = Answering l.answers (value_bytes l.value) (table_in l.table) l.count l.initial.out l.at l.out l.next l.i
