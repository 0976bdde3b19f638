-- `read` meets its contract: the decoded table is encoded again, and the two forms are compared.
use Rattle.bucket.proofs.Answering.{reading_of_other_length, reading_unfit, reading_same, reading_other}
use Rattle.std.specs.Cmp.Lexicographic.{same_text, other_text}
use mathlib.Core.Path.{sym, ◌∙◌}
use Rattle.bucket.proofs.read.Goals as goal

pub returns-then-bucket-ne-BUCKET_SIZE : goal.returns-then-bucket-ne-BUCKET_SIZE
returns-then-bucket-ne-BUCKET_SIZE c = reading_of_other_length _ _ c.if-bucket-ne-BUCKET_SIZE.true

pub returns-then-not-fits : goal.returns-then-not-fits
returns-then-not-fits c = reading_unfit _ _ c.decode-table.ensures _ (sym c.if-not-fits.ensures)

pub returns-then-eq : goal.returns-then-eq
returns-then-eq c =
    reading_same _ _ c.decode-table.ensures (sym c.if-not-fits.ensures) (same_text _ _ c.if-eq.ensures ∙ c.as_slice.ensures ∙ c.encode.ensures)

pub returns-else-eq : goal.returns-else-eq
returns-else-eq c =
    reading_other _ _ c.decode-table.ensures (sym c.if-not-fits.ensures) _ (λ e. other_text _ _ c.if-eq.ensures (e ∙ sym (c.as_slice.ensures ∙ c.encode.ensures)))
