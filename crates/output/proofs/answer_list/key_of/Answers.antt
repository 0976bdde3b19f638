-- `answer_list::key_of` meets its contract: the array has eight bytes.
use mathlib.Core.Path.{◌≡◌, refl}
use native.Mathlib.Omega.{arith}
use borrow.Author.Rules.{rules}
use lib.ListN.{length, length-take}
use Rattle.entries.specs.Decoded.{text_bytes}
use Rattle.output.proofs.answer_list.key_of.Goals as goal

pub returns : goal.returns
unfolding text_bytes
returns c =
    let l : length c.args.entry.key.bytes ≡ 8 = search rules in
    record { is = refl; short = omega (arith, length-take c.args.entry.key.len c.args.entry.key.bytes) }
