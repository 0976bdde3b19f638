-- `fresh::number_words` meets its contract: number by number.
use Rattle.std.proofs.Common.{length, sym, ◌∙◌, zero-add, arith}
use Rattle.std.proofs.lemmas.List.{ext_get_or}
use Rattle.blocks.proofs.Order.{length_rising, get_or_rising}
use Rattle.machine.proofs.fresh.number_words.Goals as goal

pub returns : goal.returns
returns c =
    let n = length c.args.order.now in
    ext_get_or 0 _ _ (c.loop-i.auto.order ∙ sym (length_rising n 0))
    (λ k h. c.loop-i.invariant k (omega (arith, c.loop-i.auto.order)) ∙ sym (get_or_rising n 0 k (omega (arith, c.loop-i.auto.order)) ∙ zero-add k))
