-- `Decoded::used` meets its contract.
use mathlib.Core.Path.{◌∙◌}
use Rattle.entries.specs.Decoded.{entry_in}
use Rattle.entries.proofs.Shifts.{map-take_lem}
use Rattle.entries.proofs.Views.{table_whole}
use Rattle.entries.proofs.Decoded.used.Goals as goal

pub returns-clause-entries : goal.returns-clause-entries
returns-clause-entries c = map-take_lem entry_in c.count_of.result c.args.self.now.slots ∙ table_whole c.args.self.now c.count_of.ensures
