-- `shapes::two_numbers_line` meets its contract: by the first word.
use mathlib.Core.Path.{sym, ◌∙◌}
use Rattle.model.specs.Text.{bytes}
use Rattle.parse.specs.Meaning.{two_numbers_line}
use Rattle.parse.proofs.Forms.{keys_line, timeout_line, cut_line}
use Rattle.parse.proofs.shapes.two_numbers_line.Goals as goal

pub returns-then-same_word : goal.returns-then-same_word
unfolding two_numbers_line bytes
returns-then-same_word c = c.numbers_line.ensures ∙ keys_line _ _ ∙ rw (two_numbers_line, sym c.same_word.ensures ∙ c.if-same_word.true)

pub returns-then-same_word-2 : goal.returns-then-same_word-2
unfolding two_numbers_line bytes
returns-then-same_word-2 c =
    c.numbers_line-then-same_word-2.ensures ∙ timeout_line _ _ ∙ rw (two_numbers_line, sym c.same_word.ensures ∙ c.if-same_word.false, sym c.same_word-2.ensures ∙ c.if-same_word-2.true)

pub returns-then-same_word-3 : goal.returns-then-same_word-3
unfolding two_numbers_line bytes
returns-then-same_word-3 c =
    c.numbers_line-then-same_word-3.ensures ∙ cut_line _ _ ∙ rw (two_numbers_line, sym c.same_word.ensures ∙ c.if-same_word.false, sym c.same_word-2.ensures ∙ c.if-same_word-2.false, sym c.same_word-3.ensures ∙ c.if-same_word-3.true)

pub returns : goal.returns
unfolding two_numbers_line bytes
returns c =
    rw (two_numbers_line, sym c.same_word.ensures ∙ c.if-same_word.false, sym c.same_word-2.ensures ∙ c.if-same_word-2.false, sym c.same_word-3.ensures ∙ c.if-same_word-3.false)
