-- `tables::working_from_table` meets its contract: what its callee writes, as a content of the region.
use Rattle.entries.specs.Decoded.{table_in}
use Rattle.blocks.specs.Blocks.{block}
use Prim.Native.Nat.{◌+◌}
use Rattle.memory.specs.Layout.{content_size}
use Rattle.memory_regions.specs.Contents.{first_working}
use Rattle.memory_regions.proofs.Contents.{working_read, working_stored}
use Rattle.memory_contents.specs.Tables.{form_over}
use borrow.Author.Rules.{rules}
use Rattle.memory_contents.proofs.tables.working_from_table.Goals as goal

pub returns : goal.returns
returns c =
    let form = form_over (table_in c.args.table) (block content_size (first_working + c.args.slot) c.args.bytes.now) in
    rw (working_read c.args.slot c.args.bytes.now (search rules), c.put_table.ensures.stored) (working_stored c.args.slot c.args.bytes.now form c.put_table.ensures.long c.put_table.ensures.whole (search rules))
