-- `memory_contents::copy_from_payload` meets its contract: a content is copied, and it is read and stored as a content of its region.
use Prim.Native.Nat.{◌+◌}
use Rattle.blocks.specs.Blocks.{block}
use Rattle.blocks.proofs.Laws.{length_block}
use Rattle.memory.specs.Layout.{content_size}
use Rattle.memory_regions.specs.Contents.{first_payload}
use Rattle.memory_regions.proofs.Contents.{payload_read, copy_stored}
use borrow.Author.Rules.{rules}
use Rattle.memory_contents.proofs.copy_from_payload.Goals as goal

pub returns : goal.returns
returns c =
    let from = first_payload + c.args.place in
    rw (payload_read c.args.place c.args.bytes.now (search rules), c.copy_content.ensures.stored)
    (copy_stored c.args.slot c.args.bytes.now (block content_size from c.args.bytes.now) c.copy_content.ensures.long (length_block content_size from c.args.bytes.now (search rules)) (search rules))
