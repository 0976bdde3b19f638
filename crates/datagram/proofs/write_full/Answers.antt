-- `write_full` meets its contract: 13 is looked at first, then 14, then 15.
use mathlib.Core.Path.{sym}
use native.Mathlib.Omega.{arith}
use Rattle.datagram.proofs.Answering.{write_unfit, write_full_wrong, write_full_short, write_full_done}
use Rattle.datagram.proofs.write_full.Goals as goal

pub returns-then-not-has_form : goal.returns-then-not-has_form
returns-then-not-has_form c = write_unfit c.args.datagram c.args.out.now c.requires (sym c.if-not-has_form.ensures)

pub returns-then-not-well_formed : goal.returns-then-not-well_formed
returns-then-not-well_formed c =
    write_full_wrong c.args.datagram c.args.out.now c.requires (sym c.if-not-has_form.ensures) (sym c.if-not-well_formed.ensures)

pub returns-then-out-lt-FULL_SIZE : goal.returns-then-out-lt-FULL_SIZE
returns-then-out-lt-FULL_SIZE c =
    write_full_short c.args.datagram c.args.out.now c.requires (sym c.if-not-has_form.ensures) (sym c.if-not-well_formed.ensures) c.if-out-lt-FULL_SIZE.true

pub returns : goal.returns
returns c =
    write_full_done c.args.datagram c.args.out.now c.requires (sym c.if-not-has_form.ensures) (sym c.if-not-well_formed.ensures) _ c.if-out-lt-FULL_SIZE.false c.put_full.ensures
