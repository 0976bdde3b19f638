-- `shapes::line_of_2` meets its contract: by the first word.
use mathlib.Core.Path.{sym, ◌∙◌}
use Rattle.model.specs.Text.{bytes}
use Rattle.model.specs.Parse.{line_of2}
use Rattle.parse.specs.Meaning.{two_numbers_line}
use Rattle.parse.proofs.Forms.{cluster_line_lem, get_line, del_line}
use Rattle.parse.proofs.shapes.line_of_2.Goals as goal

pub returns-then-same_word : goal.returns-then-same_word
unfolding line_of2 bytes
returns-then-same_word c = c.numbers_line.ensures ∙ cluster_line_lem _ _ ∙ rw (line_of2, sym c.same_word.ensures ∙ c.if-same_word.true)

pub returns-then-same_word-2 : goal.returns-then-same_word-2
unfolding line_of2 bytes
returns-then-same_word-2 c =
    c.key_line.ensures ∙ get_line _ _ ∙ rw (line_of2, sym c.same_word.ensures ∙ c.if-same_word.false, sym c.same_word-2.ensures ∙ c.if-same_word-2.true)

pub returns-then-same_word-3 : goal.returns-then-same_word-3
unfolding line_of2 bytes
returns-then-same_word-3 c =
    c.key_line-then-same_word-3.ensures ∙ del_line _ _ ∙ rw (line_of2, sym c.same_word.ensures ∙ c.if-same_word.false, sym c.same_word-2.ensures ∙ c.if-same_word-2.false, sym c.same_word-3.ensures ∙ c.if-same_word-3.true)

pub returns : goal.returns
unfolding two_numbers_line line_of2 bytes
returns c =
    c.two_numbers_line.ensures ∙ rw (line_of2, sym c.same_word.ensures ∙ c.if-same_word.false, sym c.same_word-2.ensures ∙ c.if-same_word-2.false, sym c.same_word-3.ensures ∙ c.if-same_word-3.false)
