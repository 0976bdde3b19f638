-- `answer_text::put_keys` meets its contract.
use mathlib.Core.Path.{sym}
use Rattle.model.specs.Text.{bytes}
use Rattle.print.proofs.Texts.{keys_none, keys_some}
use Rattle.print.proofs.answer_text.put_keys.Goals as goal

pub put_bytes-requires : goal.put_bytes-requires
unfolding bytes
put_bytes-requires c = rw (keys_none c.args.keys.now (sym c.if-is_empty.ensures)) at c.requires

pub returns-then-is_empty : goal.returns-then-is_empty
unfolding bytes
returns-then-is_empty c = rw (keys_none c.args.keys.now (sym c.if-is_empty.ensures)) c.put_bytes.ensures

pub put_each_key-requires : goal.put_each_key-requires
put_each_key-requires c = rw (keys_some c.args.keys.now (sym c.if-is_empty.ensures)) at c.requires

pub returns-else-is_empty : goal.returns-else-is_empty
returns-else-is_empty c = rw (keys_some c.args.keys.now (sym c.if-is_empty.ensures)) c.put_each_key.ensures
