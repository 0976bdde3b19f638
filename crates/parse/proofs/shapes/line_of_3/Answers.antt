-- `shapes::line_of_3` meets its contract: by the first word.
use mathlib.Core.Path.{sym, ◌∙◌}
use Rattle.model.specs.Text.{bytes}
use Rattle.model.specs.Parse.{line_of3}
use Rattle.parse.proofs.Forms.{set_line}
use Rattle.parse.proofs.shapes.line_of_3.Goals as goal

pub returns-then-same_word : goal.returns-then-same_word
unfolding line_of3 bytes
returns-then-same_word c = c.call_line.ensures ∙ set_line _ _ _ ∙ rw (line_of3, sym c.same_word.ensures ∙ c.if-same_word.true)

pub returns : goal.returns
unfolding line_of3 bytes
returns c = rw (line_of3, sym c.same_word.ensures ∙ c.if-same_word.false)
