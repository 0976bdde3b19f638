-- `hexadecimals::item` meets its contract.
use mathlib.Core.Path.{sym, ◌∙◌}
use Rattle.parse.proofs.Forms.{item_reads, unread}
use Rattle.parse.proofs.hexadecimals.item.Goals as goal

pub returns-then-is_item : goal.returns-then-is_item
returns-then-is_item c = rw c.item_in.ensures (item_reads _ (sym c.is_item.ensures ∙ c.if-is_item.true))

pub returns-else-is_item : goal.returns-else-is_item
returns-else-is_item c = unread _ _ (sym c.is_item.ensures ∙ c.if-is_item.false)
