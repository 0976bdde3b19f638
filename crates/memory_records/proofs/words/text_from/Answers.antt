-- `words::text_from` meets its contract: bytes of the region, lent alone.
use Rattle.std.proofs.Common.{arith, ◌+◌, ◌-◌}
use Rattle.memory_regions.specs.Contents.{texts_place}
use Rattle.memory_records.proofs.Texts.{text_read}
use Rattle.memory_records.proofs.words.text_from.Goals as goal

pub returns : goal.returns
returns g c = rw (c.copy_from_slice.ensures.after, text_read c.args.bytes.now c.args.at g.row.ROOM (texts_place + c.args.at + g.row.ROOM - (texts_place + c.args.at)) (omega arith) c.requires)
