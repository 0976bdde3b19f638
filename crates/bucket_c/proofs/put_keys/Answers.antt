-- `put_keys` meets its contract: key by key.
use mathlib.Core.Path.{◌∙◌}
use native.Mathlib.Omega.{arith}
use Rattle.bucket_c.proofs.Exporting.{putting_within, putting_room, putting_goes_on, putting_ends}
use Rattle.bucket_c.proofs.put_keys.Goals as goal

pub bounds-out-at : goal.bounds-out-at
bounds-out-at c = omega (arith, putting_within c.loop-key.invariant c.loop-key-test.true c.length-len.ensures.is)

pub slice_bounds-copy_from_slice-end : goal.slice_bounds-copy_from_slice-end
slice_bounds-copy_from_slice-end c = putting_room c.loop-key.invariant c.loop-key-test.true c.length-len.ensures.is

pub loop-key-preserved : goal.loop-key-preserved
loop-key-preserved c =
    putting_goes_on c.loop-key.invariant c.loop-key-test.true c.length-len.ensures.is _ c.length-len.ensures.low (c.copy_from_slice.ensures.after ∙ c.as_slice.ensures)

pub returns : goal.returns
returns c = putting_ends c.loop-key.invariant c.loop-key-test.false
