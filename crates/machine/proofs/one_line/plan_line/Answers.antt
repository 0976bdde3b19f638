-- `one_line::plan_line` meets its contract: kind by kind.
use Rattle.machine.proofs.Planning.{elect_planned, lose_planned, timeout_planned, stop_planned, cut_planned, start_planned, planned_call}
use Rattle.machine.proofs.one_line.plan_line.Goals as goal

pub returns-in-Elect : goal.returns-in-Elect
returns-in-Elect c = elect_planned _ _ _ _ _ _ _ c.in-Elect.is c.plan_elect.ensures

pub returns-in-Lose : goal.returns-in-Lose
returns-in-Lose c = lose_planned _ _ _ _ _ _ _ c.in-Lose.is c.plan_lose.ensures

pub returns-in-Timeout : goal.returns-in-Timeout
returns-in-Timeout c = timeout_planned _ _ _ _ _ _ _ c.in-Timeout.is c.plan_timeout.ensures

pub returns-in-Stop : goal.returns-in-Stop
returns-in-Stop c = stop_planned _ _ _ _ _ _ _ c.in-Stop.is c.plan_stop.ensures

pub returns-in-Cut : goal.returns-in-Cut
returns-in-Cut c = cut_planned _ _ _ _ _ _ _ c.in-Cut.is c.plan_cut.ensures

pub returns-in-Start : goal.returns-in-Start
returns-in-Start c = start_planned _ _ _ _ _ _ _ c.in-Start.is c.plan_start.ensures

pub returns-in_default : goal.returns-in_default
returns-in_default c =
    planned_call _ _ _ _ _ _ _ _ c.requires.1 c.in_default.not-Elect c.in_default.not-Lose c.in_default.not-Timeout c.in_default.not-Stop c.in_default.not-Cut c.in_default.not-Start c.words_of.ensures c.plan_call.ensures
