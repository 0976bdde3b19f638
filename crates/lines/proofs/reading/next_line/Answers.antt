-- `reading::next_line` meets its contract.
use mathlib.Core.Path.{refl}
use Rattle.lines.specs.Feeding.{found, full}
use Rattle.lines.proofs.reading.next_line.Goals as goal

pub returns-then-may_run : goal.returns-then-may_run
returns-then-may_run c =
    let k = c.may_run.ensures.may c.if-may_run.true in
    found k.0 k.1 c.whole_line.ensures

pub returns-else-may_run : goal.returns-else-may_run
returns-else-may_run c = full (c.may_run.ensures.may_not c.if-may_run.false) refl refl
