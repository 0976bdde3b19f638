-- `bucket_get` meets its contract: a value of no bytes is told from none.
use mathlib.Core.Path.{refl}
use Rattle.entries.specs.Decoded.{value_bytes, item_in}
use Rattle.bucket_c.proofs.Exporting.{get_refused, get_absent, get_found}
use Rattle.bucket_c.proofs.bucket_get.Goals as goal

pub returns-in-Ok-Some : goal.returns-in-Ok-Some
unfolding item_in
returns-in-Ok-Some c =
    let l = rw c.in-Ok-Some.field-0-is at c.in-Ok-Some.ensures in
    get_found _ _ _ _ (value_bytes c.in-Ok-Some.value) _ l.is refl c.put_found.ensures

pub returns-in-Ok-None : goal.returns-in-Ok-None
unfolding item_in
returns-in-Ok-None c =
    let l = rw c.in-Ok-None.field-0-is at c.in-Ok-None.ensures in
    get_absent _ _ _ _ l.is refl

pub returns-in-Err : goal.returns-in-Err
returns-in-Err c = get_refused _ _ _ _ c.in-Err.ensures.is
