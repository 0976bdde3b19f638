-- `keeping::kept_bytes` meets its contract.
use Rattle.lines.proofs.Holding.{present_cut}
use Rattle.lines.proofs.keeping.kept_bytes.Goals as goal

pub returns : goal.returns
returns c = rw c.min.ensures (present_cut _ _)
