-- `answer_text::put_head` meets its contract.
use native.Mathlib.Omega.{arith}
use mathlib.Core.List.{◌++◌}
use lib.ListN.{length-append}
use Rattle.model.specs.Text.{bytes}
use Rattle.model.specs.Print.{decimal}
use Rattle.print.proofs.Printing.{fits_second, both}
use Rattle.print.specs.Answers.{word_for}
use Rattle.print.proofs.answer_text.put_head.Goals as goal

pub put_decimal-after_call-requires : goal.put_decimal-after_call-requires
unfolding bytes
put_decimal-after_call-requires c =
    omega (arith, c.requires, length-append (decimal c.args.call) ((bytes " " ++ (word_for c.args.word ++ bytes " ")) ++ (decimal c.args.rounds)))

pub put_bytes-after_word-requires : goal.put_bytes-after_word-requires
unfolding bytes
put_bytes-after_word-requires c =
    rw c.spaced.ensures (omega (arith, fits_second (decimal c.args.call) ((bytes " " ++ (word_for c.args.word ++ bytes " ")) ++ (decimal c.args.rounds)) (c.requires) c.put_decimal-after_call.ensures, length-append (bytes " " ++ (word_for c.args.word ++ bytes " ")) (decimal c.args.rounds)))

pub put_decimal-requires : goal.put_decimal-requires
unfolding bytes
put_decimal-requires c =
    fits_second (bytes " " ++ (word_for c.args.word ++ bytes " ")) (decimal c.args.rounds) (fits_second (decimal c.args.call) ((bytes " " ++ (word_for c.args.word ++ bytes " ")) ++ (decimal c.args.rounds)) (c.requires) c.put_decimal-after_call.ensures) (rw c.spaced.ensures at c.put_bytes-after_word.ensures)

pub returns : goal.returns
unfolding bytes
returns c =
    both (decimal c.args.call) ((bytes " " ++ (word_for c.args.word ++ bytes " ")) ++ (decimal c.args.rounds)) (c.requires) c.put_decimal-after_call.ensures (both (bytes " " ++ (word_for c.args.word ++ bytes " ")) (decimal c.args.rounds) (fits_second (decimal c.args.call) ((bytes " " ++ (word_for c.args.word ++ bytes " ")) ++ (decimal c.args.rounds)) (c.requires) c.put_decimal-after_call.ensures) (rw c.spaced.ensures at c.put_bytes-after_word.ensures) c.put_decimal.ensures)
