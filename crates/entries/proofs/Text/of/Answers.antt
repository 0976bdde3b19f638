-- `Text::of` meets its contract: a copy of at most as many bytes as there is room for.
use Rattle.entries.specs.Decoded.{text_bytes}
use Rattle.entries.proofs.Lists.{take_copied}
use Rattle.entries.proofs.Text.of.Goals as goal

pub returns-clause-bytes : goal.returns-clause-bytes
unfolding text_bytes
returns-clause-bytes g c = take_copied g.row.ROOM _ c.args.bytes.now _ _ c.min-len.ensures c.copy_from_slice.ensures.after
