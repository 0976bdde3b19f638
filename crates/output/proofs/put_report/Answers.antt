-- `put_report` meets its contract: nothing where there are no answers.
use Rattle.output.proofs.Outcomes.{none_told}
use Rattle.output.proofs.put_report.Goals as goal

pub returns-then-report-eq0 : goal.returns-then-report-eq0
returns-then-report-eq0 c = none_told c.args.report _ _ _ c.if-report-eq0.true
