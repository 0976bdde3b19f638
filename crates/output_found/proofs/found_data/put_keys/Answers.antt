-- `found_data::put_keys` meets its contract: by their number.
use mathlib.Core.Path.{sym, ◌∙◌}
use Rattle.model.specs.Text.{bytes}
use Rattle.output_found.proofs.Texts.{keys_none, keys_some}
use Rattle.output_found.proofs.found_data.put_keys.Goals as goal

pub put_bytes-requires : goal.put_bytes-requires
unfolding bytes
put_bytes-requires c = rw (keys_none _ (sym c.found_count.ensures.is ∙ c.if-found_count-eq0.true)) at c.requires

pub returns-then-found_count-eq0 : goal.returns-then-found_count-eq0
unfolding bytes
returns-then-found_count-eq0 c = rw (keys_none _ (sym c.found_count.ensures.is ∙ c.if-found_count-eq0.true)) c.put_bytes.ensures

pub put_each_key-requires : goal.put_each_key-requires
put_each_key-requires c = rw (keys_some _ (λ e. c.if-found_count-eq0.false (c.found_count.ensures.is ∙ e))) at c.requires

pub returns-else-found_count-eq0 : goal.returns-else-found_count-eq0
returns-else-found_count-eq0 c = rw (keys_some _ (λ e. c.if-found_count-eq0.false (c.found_count.ensures.is ∙ e))) c.put_each_key.ensures
