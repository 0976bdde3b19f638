-- `reading::whole_line` meets its contract: a line `deliver I`, or any line.
use mathlib.Core.Path.{refl}
use Rattle.lines.proofs.WholeLines.{deliver_whole}
use Rattle.lines.proofs.reading.whole_line.Goals as goal

pub returns-in-Some : goal.returns-in-Some
returns-in-Some c = deliver_whole _ _ c.args.progress _ _ _ c.if-progress-eq0.true c.in-Some.ensures refl refl c.deliver_line.ensures
