-- `put_found` meets its contract: the value, where there is room for it.
use mathlib.Core.Path.{◌∙◌}
use Rattle.bucket_c.proofs.Exporting.{out_short, out_copied}
use Rattle.bucket_c.proofs.put_found.Goals as goal

pub returns-then-out-len : goal.returns-then-out-len
returns-then-out-len c = out_short _ _ _ (rw c.length-len.ensures.is at c.if-out-len.true)

pub returns : goal.returns
returns c = out_copied _ _ _ _ c.length-len.ensures.is c.if-out-len.false (c.copy_from_slice.ensures.after ∙ c.as_slice.ensures)
