-- `carrying::lose` meets its contract: the list, then the counts.
use Rattle.runs.proofs.Reporting.{lost_report}
use Rattle.machine.proofs.carrying.lose.Goals as goal

pub returns : goal.returns
returns c =
    record { rest = c.leave-count.ensures.is; counted = rw (c.store_counts.ensures, c.next_counts.ensures); report = lost_report c.bare_report.result _ _ c.bare_report.ensures }
