-- `all_sized` meets its contract: entry by entry.
use mathlib.Core.Path.{sym, ap, ◌∙◌}
use lib.ListN.{length-map}
use Rattle.table.specs.Form.{sized}
use Rattle.checks.proofs.Testing as testing
use Rattle.checks.proofs.all_sized.Goals as goal

pub returns : goal.returns
returns c =
    record {
      is = c.each_sized.ensures ∙ sym (testing.all_sized c.used.result.now) ∙ ap (sized 16) c.used.ensures.entries;
      few = rw (← c.used.ensures.entries, length-map) c.used.ensures.low;
    }
