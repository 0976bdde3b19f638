-- `writing::put_item` meets its contract: the length, then the bytes.
use mathlib.Core.Path.{◌∙◌}
use native.Mathlib.Omega.{arith}
use Rattle.entries.specs.Decoded.{text_bytes}
use Rattle.memory_found.proofs.Forms.{item_put}
use Rattle.memory_found.proofs.writing.put_item.Goals as goal

pub returns : goal.returns
returns g c =
    item_put g.row.ROOM (text_bytes c.args.item.now) c.args.found.now c.args.at (omega (arith, c.requires.1, c.length-len.ensures.is, c.length-len.ensures.low)) c.length-len.ensures.is (omega (arith, c.length-len.ensures.is, c.length-len.ensures.low)) (c.copy_from_slice.ensures.after ∙ c.as_slice.ensures) (omega arith)
