-- `shapes::line_of_1` meets its contract: by the first word.
use mathlib.Core.Path.{sym, ◌∙◌}
use Rattle.model.specs.Text.{bytes}
use Rattle.model.specs.Parse.{line_of1}
use Rattle.parse.proofs.Forms.{elect_line, deliver_line_lem, copy_line, lose_line, stop_line, start_line}
use Rattle.parse.proofs.shapes.line_of_1.Goals as goal

pub returns-then-same_word : goal.returns-then-same_word
unfolding line_of1 bytes
returns-then-same_word c = c.number_line.ensures ∙ elect_line _ ∙ rw (line_of1, sym c.same_word.ensures ∙ c.if-same_word.true)

pub returns-then-same_word-2 : goal.returns-then-same_word-2
unfolding line_of1 bytes
returns-then-same_word-2 c =
    c.number_line-then-same_word-2.ensures ∙ deliver_line_lem _ ∙ rw (line_of1, sym c.same_word.ensures ∙ c.if-same_word.false, sym c.same_word-2.ensures ∙ c.if-same_word-2.true)

pub returns-then-same_word-3 : goal.returns-then-same_word-3
unfolding line_of1 bytes
returns-then-same_word-3 c =
    c.number_line-then-same_word-3.ensures ∙ copy_line _ ∙ rw (line_of1, sym c.same_word.ensures ∙ c.if-same_word.false, sym c.same_word-2.ensures ∙ c.if-same_word-2.false, sym c.same_word-3.ensures ∙ c.if-same_word-3.true)

pub returns-then-same_word-4 : goal.returns-then-same_word-4
unfolding line_of1 bytes
returns-then-same_word-4 c =
    c.number_line-then-same_word-4.ensures ∙ lose_line _ ∙ rw (line_of1, sym c.same_word.ensures ∙ c.if-same_word.false, sym c.same_word-2.ensures ∙ c.if-same_word-2.false, sym c.same_word-3.ensures ∙ c.if-same_word-3.false, sym c.same_word-4.ensures ∙ c.if-same_word-4.true)

pub returns-then-same_word-5 : goal.returns-then-same_word-5
unfolding line_of1 bytes
returns-then-same_word-5 c =
    c.number_line-then-same_word-5.ensures ∙ stop_line _ ∙ rw (line_of1, sym c.same_word.ensures ∙ c.if-same_word.false, sym c.same_word-2.ensures ∙ c.if-same_word-2.false, sym c.same_word-3.ensures ∙ c.if-same_word-3.false, sym c.same_word-4.ensures ∙ c.if-same_word-4.false, sym c.same_word-5.ensures ∙ c.if-same_word-5.true)

pub returns-then-same_word-6 : goal.returns-then-same_word-6
unfolding line_of1 bytes
returns-then-same_word-6 c =
    c.number_line-then-same_word-6.ensures ∙ start_line _ ∙ rw (line_of1, sym c.same_word.ensures ∙ c.if-same_word.false, sym c.same_word-2.ensures ∙ c.if-same_word-2.false, sym c.same_word-3.ensures ∙ c.if-same_word-3.false, sym c.same_word-4.ensures ∙ c.if-same_word-4.false, sym c.same_word-5.ensures ∙ c.if-same_word-5.false, sym c.same_word-6.ensures ∙ c.if-same_word-6.true)

pub returns : goal.returns
unfolding line_of1 bytes
returns c =
    rw (line_of1, sym c.same_word.ensures ∙ c.if-same_word.false, sym c.same_word-2.ensures ∙ c.if-same_word-2.false, sym c.same_word-3.ensures ∙ c.if-same_word-3.false, sym c.same_word-4.ensures ∙ c.if-same_word-4.false, sym c.same_word-5.ensures ∙ c.if-same_word-5.false, sym c.same_word-6.ensures ∙ c.if-same_word-6.false)
