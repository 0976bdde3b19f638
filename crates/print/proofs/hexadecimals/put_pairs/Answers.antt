-- `hexadecimals::put_pairs` meets its contract: byte by byte.
use lib.ListN.{length-set}
use native.Mathlib.Omega.{arith}
use Rattle.model.specs.Print.{hex_pairs}
use Rattle.print.proofs.Printing.{each_starts, each_fits, each_goes_on, each_ends, each_size, next_pair, pairs_end, printed_two}
use Rattle.print.proofs.hexadecimals.put_pairs.Goals as goal

pub loop-byte-init : goal.loop-byte-init
loop-byte-init c = each_starts hex_pairs _ _ _ c.requires

pub hex_digit-requires : goal.hex_digit-requires
hex_digit-requires c = omega (arith, c.type_inv.bytes c.loop-byte.byte-index)

pub bounds-out-end : goal.bounds-out-end
bounds-out-end c = omega (arith, each_fits c.loop-byte.invariant (next_pair c.args.bytes.now c.loop-byte.byte-index c.loop-byte-test.true))

pub overflow_add-out : goal.overflow_add-out
overflow_add-out c = omega (arith, each_fits c.loop-byte.invariant (next_pair c.args.bytes.now c.loop-byte.byte-index c.loop-byte-test.true))

pub bounds-out-end-in-loop-byte : goal.bounds-out-end-in-loop-byte
bounds-out-end-in-loop-byte c = simp length-set (omega (arith, each_fits c.loop-byte.invariant (next_pair c.args.bytes.now c.loop-byte.byte-index c.loop-byte-test.true)))

pub overflow_add-end : goal.overflow_add-end
overflow_add-end c = omega (arith, each_fits c.loop-byte.invariant (next_pair c.args.bytes.now c.loop-byte.byte-index c.loop-byte-test.true))

pub loop-byte-preserved : goal.loop-byte-preserved
loop-byte-preserved c =
    rw (c.hex_digit.ensures, c.hex_digit-in-loop-byte.ensures) (each_goes_on c.loop-byte.invariant c.loop-byte-test.true (next_pair c.args.bytes.now c.loop-byte.byte-index c.loop-byte-test.true) (printed_two _ _ _ _ (each_fits c.loop-byte.invariant (next_pair c.args.bytes.now c.loop-byte.byte-index c.loop-byte-test.true))))

pub shape_of-out : goal.shape_of-out
shape_of-out c = each_size c.loop-byte.invariant

pub returns : goal.returns
returns c = each_ends c.loop-byte.invariant (pairs_end) c.loop-byte-test.false
