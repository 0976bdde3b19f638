-- `slot_at` meets its contract: the key's bytes, and the value's after them.
use native.Mathlib.Omega.{arith}
use borrow.Author.Rules.{rules}
use Prim.Native.Nat.{◌+◌, ◌-◌}
use mathlib.Core.Path.{◌≡◌}
use Rattle.table.proofs.Parsing.{slot_cut}
use Rattle.decoding.proofs.slot_at.Goals as goal

pub returns : goal.returns
returns c =
    let k : c.args.at + c.args.key_len - c.args.at ≡ c.args.key_len = omega arith in
    let v : c.args.at + c.args.key_len + c.args.value_len - (c.args.at + c.args.key_len) ≡ c.args.value_len = omega arith in
    slot_cut c.args.bucket.now c.args.at c.args.key_len c.args.value_len c.of.result c.of-2.result (search rules) (search rules) (search rules) (rw k at c.of.ensures.bytes)
    (rw v at c.of-2.ensures.bytes) c.of.ensures.low c.of-2.ensures.low
