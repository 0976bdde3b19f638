-- `one_line::words_of` meets its contract: kind by kind.
use Rattle.std.proofs.Common.{sym, ap}
use Rattle.runs.specs.Runs.{words_of}
use Rattle.machine.proofs.one_line.words_of.Goals as goal

pub returns-in-Set : goal.returns-in-Set
unfolding words_of
returns-in-Set c = rw (c.words-in-Set.ensures, c.item-value.ensures) (sym (ap (λ k. words_of k c.args.line) c.in-Set.is))

pub returns-in-SetIf : goal.returns-in-SetIf
unfolding words_of
returns-in-SetIf c =
    rw (c.words-in-SetIf.ensures, c.item-expected.ensures, c.item-value.ensures) (sym (ap (λ k. words_of k c.args.line) c.in-SetIf.is))
