-- `found_data::put_each_key` meets its contract: key by key.
use Rattle.model.specs.Print.{key_list}
use Rattle.memory_found.specs.Found.{found_in}
use Rattle.print.proofs.Printing.{each_starts, each_fits, each_goes_on, each_ends, each_size}
use Rattle.print.proofs.Texts.{keys_end}
use Rattle.output_found.proofs.Texts.{next_item}
use Rattle.output_found.proofs.found_data.put_each_key.Goals as goal

pub loop-i-init : goal.loop-i-init
loop-i-init c = each_starts key_list _ _ _ c.requires

pub put_key-end-requires : goal.put_key-end-requires
put_key-end-requires c =
    each_fits c.loop-i.invariant (next_item (found_in c.args.found.now) c.loop-i.i (rw (← c.found_count-i-end.ensures.is) c.loop-i-test.true))

pub loop-i-preserved : goal.loop-i-preserved
loop-i-preserved c =
    each_goes_on c.loop-i.invariant (rw (← c.found_count-i-end.ensures.is) c.loop-i-test.true) (next_item (found_in c.args.found.now) c.loop-i.i (rw (← c.found_count-i-end.ensures.is) c.loop-i-test.true)) c.put_key-end.ensures

pub shape_of-out : goal.shape_of-out
shape_of-out c = each_size c.loop-i.invariant

pub returns : goal.returns
returns c = each_ends c.loop-i.invariant keys_end (rw (← c.found_count-i-end.ensures.is) c.loop-i-test.false)
