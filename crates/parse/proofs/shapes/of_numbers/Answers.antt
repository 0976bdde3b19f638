-- `shapes::of_numbers` meets its contract.
use mathlib.Core.Path.{◌∙◌}
use Rattle.parse.specs.Kept.{padded, text_for, item_for}
use Rattle.parse.proofs.shapes.of_numbers.Goals as goal

pub returns : goal.returns
unfolding padded text_for item_for
returns c = c.of_words.ensures ∙ rw c.empty.ensures
