-- `put_entry` meets its contract: the value behind the key.
use native.Mathlib.Omega.{arith}
use Rattle.entries.specs.Decoded.{key_bytes, value_bytes}
use Rattle.table.proofs.Filling.{sets_both}
use Rattle.encoding.proofs.put_entry.Goals as goal

pub returns : goal.returns
returns c =
    record {
      key = rw (← c.length.ensures.is) c.length.ensures.low;
      value = rw (← c.length-2.ensures.is) c.length-2.ensures.low;
      next = omega (arith, c.length.ensures.is, c.length-2.ensures.is);
      is =
          sets_both c.args.out.now c.put_text.new.out c.put_text-2.new.out c.args.at c.length.result (key_bytes c.args.slot.key) (value_bytes c.args.slot.value) c.length.ensures.is c.put_text.ensures c.put_text-2.ensures;
    }
