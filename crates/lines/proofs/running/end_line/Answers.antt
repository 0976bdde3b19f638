-- `running::end_line` meets its contract: run, then told.
use mathlib.Core.Path.{refl}
use native.Mathlib.Omega.{arith}
use Rattle.runs.proofs.Numbers.{outcome_numbered}
use Rattle.lines.proofs.Told.{few_answers}
use Rattle.lines.proofs.running.end_line.Goals as goal

pub overflow_add-number : goal.overflow_add-number
overflow_add-number c = omega (arith, c.requires.0)

pub overflow_cast-number : goal.overflow_cast-number
overflow_cast-number c = omega (arith, c.requires.0)

pub put_outcome-written-requires : goal.put_outcome-written-requires
put_outcome-written-requires c = (c.requires.1, few_answers c.step-stepped.ensures.performs)

pub returns-clause-ends : goal.returns-clause-ends
returns-clause-ends c =
    record {
      step = c.step-stepped.result;
      performs = c.step-stepped.ensures.performs;
      counted = refl;
      told = rw (← outcome_numbered c.step-stepped.result.report _) c.put_outcome-written.ensures;
    }
