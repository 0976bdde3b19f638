-- `put_outcome` meets its contract: the refusal, or the answers.
use native.Mathlib.Omega.{arith}
use Rattle.output.proofs.Outcomes.{refusal_fits, refusal_told_by, report_told_by}
use borrow.Author.Rules.{rules}
use Rattle.output.proofs.put_outcome.Goals as goal

pub put_refusal-requires : goal.put_refusal-requires
put_refusal-requires g c = omega (arith, c.requires.0, refusal_fits c.args.line c.told_number.result (search rules) (search rules))

pub returns-in-Err : goal.returns-in-Err
returns-in-Err g c = refusal_told_by _ c.args.line _ c.in-Err.is (search rules) (search rules) c.told_number.ensures c.put_refusal.ensures

pub put_report-requires : goal.put_report-requires
put_report-requires g c = (c.requires.0, rw c.in-Ok.is at c.requires.1)

pub returns-in-Ok : goal.returns-in-Ok
returns-in-Ok g c = report_told_by _ c.args.line _ c.in-Ok.is c.put_report.ensures
