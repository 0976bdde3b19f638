-- `shapes::key_line` meets its contract.
use Rattle.model.specs.Text.{bytes}
use Rattle.parse.proofs.shapes.key_line.Goals as goal

pub returns : goal.returns
unfolding bytes
returns c = c.call_line.ensures
