-- `feeding::feed_part` meets its contract: the steps, one after the other, then the rest.
use Prim.Native.Nat.{◌-◌}
use lib.ListN.{length}
use Rattle.views.specs.Lent.{SameNames, memory_in}
use Rattle.lines.specs.Sessions.{held, session}
use Rattle.lines.proofs.Advancing.{Going}
use Rattle.lines.proofs.feeding.feed_part.Given as goal

abbrev pub invariant-loop-after : goal.invariant-loop-after
invariant-loop-after l =
    let first = l.initial.arrays in
    record {
      same : SameNames first l.arrays;
      going : Going (session (memory_in first) first.answers.now l.initial.progress.tally l.lines (held l.initial.line l.count)) l.input l.initial.out (session (memory_in l.arrays) l.arrays.answers.now l.progress.tally l.progress.lines (held l.line l.progress.held)) l.out l.progress;
    }

abbrev pub decreases-loop-after : goal.decreases-loop-after
decreases-loop-after l = length l.input - l.progress.taken
