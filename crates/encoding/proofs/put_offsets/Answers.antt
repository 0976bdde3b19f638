-- `put_offsets` meets its contract: the lengths are those of the key and the value.
use native.Mathlib.Omega.{arith}
use Rattle.table.proofs.Filling.{put_part}
use Rattle.encoding.proofs.put_offsets.Goals as goal

pub returns : goal.returns
returns c =
    record {
      key = rw (← c.length-key_len.ensures.is) c.length-key_len.ensures.low;
      value = rw (← c.length-value_len.ensures.is) c.length-value_len.ensures.low;
      next = omega (arith, c.length-key_len.ensures.is, c.length-value_len.ensures.is);
      is =
          rw (← c.length-key_len.ensures.is, ← c.length-value_len.ensures.is)
          (put_part c.args.out.now _ _ _ _ c.copy_from_slice.ensures.after (omega arith) (omega arith));
    }
