-- `writing::put_value` meets its contract: their number, which is one, and the item.
use borrow.Author.Rules.{rules}
use Rattle.entries.specs.Decoded.{value_bytes}
use Rattle.memory_found.proofs.Forms.{value_put}
use Rattle.memory_found.proofs.writing.put_value.Goals as goal

pub returns : goal.returns
returns c = value_put (value_bytes c.args.value) c.args.found.now _ (search rules) c.put_item.ensures
