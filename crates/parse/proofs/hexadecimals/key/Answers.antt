-- `hexadecimals::key` meets its contract.
use mathlib.Core.Path.{sym, ◌∙◌}
use Rattle.parse.proofs.Forms.{key_reads, unread}
use Rattle.parse.proofs.hexadecimals.key.Goals as goal

pub returns-then-is_key : goal.returns-then-is_key
returns-then-is_key c = rw c.text_in.ensures (key_reads _ (sym c.is_key.ensures ∙ c.if-is_key.true))

pub returns-else-is_key : goal.returns-else-is_key
returns-else-is_key c = unread _ _ (sym c.is_key.ensures ∙ c.if-is_key.false)
