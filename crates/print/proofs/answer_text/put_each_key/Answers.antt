-- `answer_text::put_each_key` meets its contract: key by key.
use lib.ListN.{length-map}
use Rattle.model.specs.Print.{key_list}
use Rattle.print.proofs.Printing.{each_starts, each_fits, each_goes_on, each_ends, each_size}
use Rattle.print.proofs.Texts.{next_key, keys_end}
use Rattle.print.proofs.answer_text.put_each_key.Goals as goal

pub loop-key-init : goal.loop-key-init
loop-key-init c = each_starts key_list _ _ _ c.requires

pub put_key-end-requires : goal.put_key-end-requires
put_key-end-requires c = each_fits c.loop-key.invariant (next_key c.args.keys.now c.loop-key.key-index c.loop-key-test.true)

pub loop-key-preserved : goal.loop-key-preserved
loop-key-preserved c =
    each_goes_on c.loop-key.invariant (rw length-map c.loop-key-test.true) (next_key c.args.keys.now c.loop-key.key-index c.loop-key-test.true) c.put_key-end.ensures

pub shape_of-out : goal.shape_of-out
shape_of-out c = each_size c.loop-key.invariant

pub returns : goal.returns
returns c = each_ends c.loop-key.invariant keys_end (rw length-map c.loop-key-test.false)
