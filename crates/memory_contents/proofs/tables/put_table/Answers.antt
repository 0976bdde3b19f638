-- `tables::put_table` meets its contract: the part that is lent is the content.
use Prim.Native.Nat.{◌+◌, ◌-◌, ◌*◌}
use native.Mathlib.Omega.{arith}
use Rattle.entries.specs.Decoded.{table_in}
use Rattle.memory.specs.Layout.{content_size}
use Rattle.memory_contents.proofs.Forms.{table_put}
use Rattle.memory_contents.proofs.tables.put_table.Goals as goal

pub returns : goal.returns
returns c =
    let from = c.args.content * content_size in
    table_put c.args.bytes.now c.args.content (from + content_size - from) (table_in c.args.table) c.encode.new.out (omega arith) (omega (arith, c.requires.1)) c.requires.1 c.bytes-1.given.0 c.encode.ensures
