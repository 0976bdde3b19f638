-- `answer_list::key_list` meets its contract: the keys of four slots.
use mathlib.Core.Path.{◌≡◌}
use lib.ListN.{length}
use Rattle.output.proofs.Keys.{keys_of_lem}
use Rattle.output.proofs.answer_list.key_list.Goals as goal

pub returns : goal.returns
returns c =
    let l : length c.args.table.slots ≡ 4 = c.well_formed.0.1.1.1.0.1.0.1 in
    keys_of_lem c.args.table _ _ _ _ l c.key_of.ensures c.key_of-2.ensures c.key_of-3.ensures c.key_of-4.ensures
