-- `carrying::execute` meets its contract: lost or carried out.
use Rattle.std.proofs.Common.{subst}
use Rattle.machine.specs.Steps.{Executable}
use Rattle.machine.proofs.Executing.{slot_within, executes_lost, executes_move, executes_taken}
use Rattle.machine.proofs.carrying.execute.Goals as goal

pub lose-requires : goal.lose-requires
lose-requires c = subst (Executable c.args.cluster) c.in-Loses.is c.requires

pub returns-in-Loses-clause-executes : goal.returns-in-Loses-clause-executes
returns-in-Loses-clause-executes c = executes_lost _ _ _ _ _ _ _ _ _ _ c.args.plan _ c.in-Loses.is c.lose.ensures

pub carry-requires : goal.carry-requires
carry-requires c = subst (Executable c.args.cluster) c.in-Moves.is c.requires

pub returns-in-Moves-clause-executes : goal.returns-in-Moves-clause-executes
returns-in-Moves-clause-executes c = executes_move _ _ _ _ _ _ _ _ _ _ c.args.plan _ _ c.in-Moves.is c.carry.ensures.carries

pub take-requires : goal.take-requires
take-requires c = slot_within (subst (Executable c.args.cluster) c.in-Takes.is c.requires)

pub carry-requires-in-Takes : goal.carry-requires-in-Takes
carry-requires-in-Takes c = subst (Executable c.args.cluster) c.in-Takes.is c.requires

pub returns-in-Takes-clause-executes : goal.returns-in-Takes-clause-executes
returns-in-Takes-clause-executes c = executes_taken _ _ _ _ _ _ _ _ _ _ c.args.plan _ _ _ c.in-Takes.is c.take.ensures c.carry-in-Takes.ensures.carries
