-- `slots::count_of` meets its contract: there are four slots.
use borrow.Author.Rules.{rules}
use lib.ListN.{length, length-map}
use mathlib.Core.Path.{◌≡◌, ◌∙◌}
use mathlib.Core.List.{map}
use Rattle.entries.specs.Decoded.{entry_in, table_in}
use Rattle.entries.proofs.Lists.{cut_length}
use Rattle.entries.proofs.slots.count_of.Goals as goal

pub returns : goal.returns
unfolding table_in
returns c =
    let l : length c.args.table.slots ≡ 4 = search rules in
    let cut = cut_length c.args.table.count 4 (map entry_in c.args.table.slots) (length-map c.args.table.slots entry_in ∙ l) in
    record { is = c.min.ensures ∙ cut.is; low = rw c.min.ensures cut.low; four = l }
