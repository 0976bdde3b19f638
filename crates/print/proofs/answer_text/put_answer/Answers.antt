-- `answer_text::put_answer` meets its contract.
use native.Mathlib.Omega.{arith}
use mathlib.Core.List.{◌++◌}
use lib.ListN.{length-append}
use Rattle.model.specs.Text.{bytes}
use Rattle.model.specs.Print.{decimal}
use Rattle.print.proofs.Printing.{fits_second, both}
use Rattle.model.specs.Print.{data_of}
use Rattle.print.specs.Answers.{answer_in, word_for}
use Rattle.print.proofs.Texts.{answer_text_lem}
use Rattle.print.proofs.answer_text.put_answer.Goals as goal

pub put_head-after_head-requires : goal.put_head-after_head-requires
unfolding bytes
put_head-after_head-requires c =
    omega (arith, (rw (answer_text_lem c.args.answer) at c.requires), length-append (decimal c.args.answer.call ++ ((bytes " " ++ (word_for c.args.answer.word ++ bytes " ")) ++ decimal c.args.answer.rounds)) ((data_of (answer_in c.args.answer).result) ++ (bytes "\n")))

pub put_data-after_data-requires : goal.put_data-after_data-requires
unfolding bytes
put_data-after_data-requires c =
    omega (arith, fits_second (decimal c.args.answer.call ++ ((bytes " " ++ (word_for c.args.answer.word ++ bytes " ")) ++ decimal c.args.answer.rounds)) ((data_of (answer_in c.args.answer).result) ++ (bytes "\n")) ((rw (answer_text_lem c.args.answer) at (c.requires))) c.put_head-after_head.ensures, length-append (data_of (answer_in c.args.answer).result) (bytes "\n"))

pub put_bytes-requires : goal.put_bytes-requires
unfolding bytes
put_bytes-requires c =
    fits_second (data_of (answer_in c.args.answer).result) (bytes "\n") (fits_second (decimal c.args.answer.call ++ ((bytes " " ++ (word_for c.args.answer.word ++ bytes " ")) ++ decimal c.args.answer.rounds)) ((data_of (answer_in c.args.answer).result) ++ (bytes "\n")) ((rw (answer_text_lem c.args.answer) at (c.requires))) c.put_head-after_head.ensures) c.put_data-after_data.ensures

pub returns : goal.returns
unfolding bytes
returns c =
    rw (answer_text_lem c.args.answer) (both (decimal c.args.answer.call ++ ((bytes " " ++ (word_for c.args.answer.word ++ bytes " ")) ++ decimal c.args.answer.rounds)) ((data_of (answer_in c.args.answer).result) ++ (bytes "\n")) ((rw (answer_text_lem c.args.answer) at (c.requires))) c.put_head-after_head.ensures (both (data_of (answer_in c.args.answer).result) (bytes "\n") (fits_second (decimal c.args.answer.call ++ ((bytes " " ++ (word_for c.args.answer.word ++ bytes " ")) ++ decimal c.args.answer.rounds)) ((data_of (answer_in c.args.answer).result) ++ (bytes "\n")) ((rw (answer_text_lem c.args.answer) at (c.requires))) c.put_head-after_head.ensures) c.put_data-after_data.ensures c.put_bytes.ensures))
