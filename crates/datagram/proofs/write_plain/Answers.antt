-- `write_plain` meets its contract: 14 is looked at before 15.
use mathlib.Core.Path.{sym}
use Rattle.datagram.proofs.Answering.{write_plain_wrong, write_plain_short, write_plain_done}
use Rattle.datagram.proofs.write_plain.Goals as goal

pub returns-then-not-well_formed : goal.returns-then-not-well_formed
returns-then-not-well_formed c = write_plain_wrong c.args.datagram c.args.out.now c.requires (sym c.if-not-well_formed.ensures)

pub returns-then-out-lt-PLAIN_SIZE : goal.returns-then-out-lt-PLAIN_SIZE
returns-then-out-lt-PLAIN_SIZE c =
    write_plain_short c.args.datagram c.args.out.now c.requires (sym c.if-not-well_formed.ensures) c.if-out-lt-PLAIN_SIZE.true

pub returns : goal.returns
returns c =
    write_plain_done c.args.datagram c.args.out.now c.requires (sym c.if-not-well_formed.ensures) _ c.if-out-lt-PLAIN_SIZE.false c.put_front.ensures
