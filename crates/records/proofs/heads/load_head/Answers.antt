-- `heads::load_head` meets its contract: what its callee reads, by its name.
use Rattle.memory.specs.Layout.{head_at}
use Rattle.records.proofs.heads.load_head.Goals as goal

pub returns : goal.returns
unfolding head_at
returns c = c.head_fields.ensures
