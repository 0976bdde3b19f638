-- `put_end` meets its contract: five numbers of at most ten figures.
use native.Mathlib.Omega.{arith}
use Rattle.runs.specs.Meaning.{tally_in}
use Rattle.print.proofs.Room.{tally_room_lem}
use Rattle.output.proofs.Outcomes.{below}
use borrow.Author.Rules.{rules}
use Rattle.output.proofs.put_end.Goals as goal

pub put_tally-requires : goal.put_tally-requires
put_tally-requires c =
    let room = tally_room_lem 10 (tally_in c.args.tally) (omega arith) (below c.args.tally.sent (search rules)) (below c.args.tally.copied (search rules)) (below c.args.tally.delivered (search rules)) (below c.args.tally.lost (search rules)) (below c.args.tally.flight (search rules)) in
    omega (arith, c.requires, room)

pub returns : goal.returns
returns c =
    let room = tally_room_lem 10 (tally_in c.args.tally) (omega arith) (below c.args.tally.sent (search rules)) (below c.args.tally.copied (search rules)) (below c.args.tally.delivered (search rules)) (below c.args.tally.lost (search rules)) (below c.args.tally.flight (search rules)) in
    (c.put_tally.ensures, omega (arith, room, c.put_tally.ensures.ends))
