-- `put_text` meets its contract.
use native.Mathlib.Omega.{arith}
use mathlib.Core.Path.{ap}
use lib.ListN.{length}
use Rattle.table.proofs.Filling.{put_part}
use Rattle.encoding.proofs.put_text.Goals as goal

pub returns : goal.returns
returns g c =
    rw (← c.as_slice-bytes.ensures)
    (put_part c.args.out.now c.args.at _ _ c.as_slice-bytes.result.now c.copy_from_slice.ensures.after (omega arith) (omega (arith, ap length c.as_slice-bytes.ensures, c.requires)))
