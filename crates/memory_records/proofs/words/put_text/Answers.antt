-- `words::put_text` meets its contract: bytes of the region, lent alone.
use Rattle.std.proofs.Common.{rules, arith}
use Rattle.memory_records.proofs.Texts.{text_put}
use Rattle.memory_records.proofs.words.put_text.Goals as goal

pub returns : goal.returns
returns g c = rw c.copy_from_slice.ensures.after (text_put c.args.bytes.now c.args.text.now.bytes c.args.at g.row.ROOM _ (omega arith) c.told-bytes c.requires (search rules))
