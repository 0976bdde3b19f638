-- `Text::as_slice` meets its contract.
use Rattle.entries.proofs.Views.{text_whole}
use Rattle.entries.proofs.Text.as_slice.Goals as goal

pub returns : goal.returns
returns g c = text_whole c.args.self.now c.length.ensures
