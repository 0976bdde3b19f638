-- `quick_deliver` meets its contract.
use native.Mathlib.Omega.{arith}
use Rattle.parse_deliver.proofs.Delivering.{deliver_of_figures}
use Rattle.parse_deliver.proofs.quick_deliver.Goals as goal

pub returns : goal.returns
returns c = deliver_of_figures c.args.input.now c.args.from _ c.in_ok-figures.figures c.requires c.in_ok-rest.ensures c.in_ok-figures.ensures (omega arith)
