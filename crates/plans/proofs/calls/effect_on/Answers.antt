-- `calls::effect_on` meets its contract: the bytes that are lent are those of the content.
use Rattle.std.proofs.Common.{◌+◌, ◌-◌, ◌*◌, ap, ◌∙◌, arith}
use Rattle.model.specs.Calls.{effect}
use Rattle.server.specs.Views.{words_in}
use Rattle.plans.proofs.Lent.{content_is}
use Rattle.plans.proofs.calls.effect_on.Goals as goal

pub returns : goal.returns
returns c =
    c.effect.ensures ∙ ap (effect (words_in c.args.words)) (c.decode-table.ensures.table ∙ content_is c.args.copies.now c.args.slot (c.args.slot * 128 + 113 - c.args.slot * 128) (omega arith))
