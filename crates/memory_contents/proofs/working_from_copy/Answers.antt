-- `memory_contents::working_from_copy` meets its contract: a content is copied, and it is read and stored as a content of its region.
use Prim.Native.Nat.{◌+◌}
use Rattle.blocks.specs.Blocks.{block}
use Rattle.blocks.proofs.Laws.{length_block}
use Rattle.memory.specs.Layout.{content_size}
use Rattle.memory_regions.specs.Contents.{first_copy}
use Rattle.memory_regions.proofs.Contents.{copy_read, working_stored}
use borrow.Author.Rules.{rules}
use Rattle.memory_contents.proofs.working_from_copy.Goals as goal

pub returns : goal.returns
returns c =
    let from = first_copy + c.args.slot in
    rw (copy_read c.args.slot c.args.bytes.now (search rules), c.copy_content.ensures.stored)
    (working_stored c.args.slot c.args.bytes.now (block content_size from c.args.bytes.now) c.copy_content.ensures.long (length_block content_size from c.args.bytes.now (search rules)) (search rules))
