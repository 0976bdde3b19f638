-- `entry_sized` meets its contract: a decoded key or value is never too long.
use borrow.Author.Rules.{rules}
use native.Mathlib.Omega.{arith}
use mathlib.Core.Path.{◌≡◌}
use lib.ListN.{length, length-take}
use Rattle.entries.specs.Decoded.{entry_in, text_bytes}
use Rattle.checks.proofs.Testing.{one_sized}
use Rattle.checks.proofs.entry_sized.Goals as goal

pub returns : goal.returns
unfolding entry_in text_bytes
returns c =
    let l : length c.args.slot.value.bytes ≡ 16 = search rules in
    one_sized c.length.result (entry_in c.args.slot) c.length.ensures.is c.length.ensures.low (omega (arith, length-take c.args.slot.value.len c.args.slot.value.bytes))
