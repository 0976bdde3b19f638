-- `hexadecimals::item_in` meets its contract: none for `-`.
use mathlib.Core.Path.{sym, ◌∙◌}
use Rattle.model.specs.Text.{bytes}
use Rattle.parse.proofs.Pairs.{item_there, item_absent}
use Rattle.parse.proofs.hexadecimals.item_in.Goals as goal

pub returns-then-same_word : goal.returns-then-same_word
unfolding bytes
returns-then-same_word c = item_absent _ (sym c.same_word.ensures ∙ c.if-same_word.true)

pub returns-else-same_word : goal.returns-else-same_word
unfolding bytes
returns-else-same_word c = item_there _ _ (sym c.same_word.ensures ∙ c.if-same_word.false) c.text_in.ensures
