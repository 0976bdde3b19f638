-- `contents::put_table` meets its contract: the part that is lent is the content of slot k.
use Rattle.entries.specs.Decoded.{table_in}
use Rattle.steps.proofs.Tables.{table_stored}
use Prim.Native.Nat.{◌+◌, ◌-◌, ◌*◌}
use native.Mathlib.Omega.{arith}
use Rattle.steps.proofs.contents.put_table.Goals as goal

pub returns : goal.returns
returns c =
    table_stored c.args.working.now c.args.slot (c.args.slot * 128 + 128 - c.args.slot * 128) (table_in c.args.table) c.encode.new.out (omega arith) (omega (arith, c.requires.1)) c.working-1.given.0 c.encode.ensures
