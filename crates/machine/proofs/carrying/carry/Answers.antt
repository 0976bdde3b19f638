-- `carrying::carry` meets its contract: what a move told, reported with its effect.
use Rattle.runs.proofs.Reporting.{reported}
use Rattle.machine.proofs.carrying.carry.Goals as goal

pub returns-clause-carries : goal.returns-clause-carries
returns-clause-carries c = reported c.args.carried.effect c.carry_out-told.ensures.carries c.report_of.ensures
