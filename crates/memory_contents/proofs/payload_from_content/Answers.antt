-- `memory_contents::payload_from_content` meets its contract: a content is copied, and it is stored as a content of its region.
use Rattle.blocks.specs.Blocks.{block}
use Rattle.blocks.proofs.Laws.{length_block}
use Rattle.memory.specs.Layout.{content_size}
use Rattle.memory_regions.proofs.Contents.{payload_stored}
use borrow.Author.Rules.{rules}
use Rattle.memory_contents.proofs.payload_from_content.Goals as goal

pub returns : goal.returns
returns c =
    rw c.copy_content.ensures.stored
    (payload_stored c.args.place c.args.bytes.now (block content_size c.args.from c.args.bytes.now) c.copy_content.ensures.long (length_block content_size c.args.from c.args.bytes.now (search rules)) (search rules))
