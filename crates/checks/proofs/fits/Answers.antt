-- `fits` meets its contract: sizes first, then the order.
use mathlib.Core.Path.{sym, ◌∙◌}
use Rattle.table.proofs.Fitting.{fits_sized, fits_unsized}
use Rattle.checks.proofs.fits.Goals as goal

pub returns-then-all_sized : goal.returns-then-all_sized
returns-then-all_sized c = c.all_rising.ensures ∙ sym (fits_sized 4 16 _ c.all_sized.ensures.few (sym c.all_sized.ensures.is ∙ c.if-all_sized.true))

pub returns-else-all_sized : goal.returns-else-all_sized
returns-else-all_sized c = c.if-all_sized.false ∙ sym (fits_unsized 4 16 _ c.all_sized.ensures.few (sym c.all_sized.ensures.is ∙ c.if-all_sized.false))
