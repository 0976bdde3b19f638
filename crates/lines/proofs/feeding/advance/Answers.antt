-- `feeding::advance` meets its contract.
use Rattle.lines.proofs.Advancing.{line_allowed, advanced_line, advanced_none}
use Rattle.lines.proofs.feeding.advance.Goals as goal

pub returns-in_err-read-clause-advances : goal.returns-in_err-read-clause-advances
returns-in_err-read-clause-advances c = advanced_none _ _ _ _ _ c.args.progress _ _ c.requires.0 c.requires.1 c.in_err-read.ensures c.from_residual.ensures

pub end_line-ending-requires : goal.end_line-ending-requires
end_line-ending-requires c = line_allowed c.in_ok-read.ensures

pub ended-requires : goal.ended-requires
ended-requires c = (line_allowed c.in_ok-read.ensures).0

pub returns-clause-advances : goal.returns-clause-advances
returns-clause-advances c = advanced_line _ _ _ _ _ c.args.progress _ _ _ _ _ c.end_line-ending.result _ c.in_ok-read.ensures c.end_line-ending.ensures.ends c.ended.ensures
