-- `text_from` meets its contract: byte by byte.
use native.Mathlib.Omega.{arith}
use Rattle.bucket_c.proofs.Windows.{windowed}
use Rattle.bucket_c.proofs.text_from.Goals as goal

pub returns : goal.returns
returns g c =
    rw (windowed g.row.ROOM c.args.at c.args.bytes.now c.loop-i.byte-items c.loop-i.invariant.long (λ k h. c.loop-i.invariant.same k (omega arith)))
