-- `after_word` meets its contract.
use Rattle.model.specs.Text.{bytes}
use Rattle.parse_deliver.proofs.Delivering.{stripped}
use Rattle.parse_deliver.proofs.after_word.Goals as goal

pub returns : goal.returns
unfolding bytes
returns c = stripped c.args.input.now (bytes "deliver ") c.strip_prefix.result c.strip_prefix.ensures.cases
