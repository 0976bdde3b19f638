-- `shapes::with_four` meets its contract: where the next word ends.
use mathlib.Core.Path.{◌∙◌}
use Rattle.model.specs.Parse.{line_of}
use Rattle.parse.proofs.Splitting.{words_cut, words_whole, too_many}
use Rattle.parse.proofs.shapes.with_four.Goals as goal

pub returns-in_default : goal.returns-in_default
unfolding line_of
returns-in_default c = c.line_of_4.ensures ∙ rw (← words_whole _ c.in_default.ensures.is)

pub returns : goal.returns
returns c = rw (← words_cut _ c.in-Some.ensures.is, too_many)
