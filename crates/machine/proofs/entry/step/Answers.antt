-- `entry::step` meets its contract: the line's run, then the tally.
use borrow.Author.Rules.{rules}
use Rattle.machine.proofs.Performing.{steps}
use Rattle.machine.proofs.entry.step.Goals as goal

pub returns-clause-performs : goal.returns-clause-performs
returns-clause-performs c = steps _ _ _ _ _ _ _ c.sizes.ensures.0 c.sizes.ensures.1 (search rules) c.run_line-report.ensures.runs c.tally_after-after.ensures
