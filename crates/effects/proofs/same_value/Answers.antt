-- `same_value` meets its contract: the bytes that count are compared.
use Rattle.std.proofs.Common.{◌≡◌, true, false, List, ℕ, refl, sym, ap, ◌∙◌}
use Rattle.std.proofs.lemmas.Map.Text.{is_eq-slice_cmp}
use Rattle.std.specs.Str.{bytes_eq}
use Rattle.std.specs.Ordering.{is_eq}
use Rattle.std.specs.declared.cmp.Ordering.{Ordering}
use Rattle.std.specs.declared.cmp.Ordering.TheVariants.{Less, Equal, Greater}
use Rattle.entries.specs.Entries.{order}
use Rattle.entries.specs.Decoded.{text_bytes}
use Rattle.entries.proofs.Comparison.{order_cmp}
use Rattle.table.specs.Form.{same_bytes}
use Rattle.effects.proofs.same_value.Goals as goal

-- lists are the same in the order where they are equal byte by byte
bytes_same : (a b : List ℕ) → bytes_eq a b ≡ same_bytes a b
unfolding same_bytes
bytes_same a b = sym (is_eq-slice_cmp a b) ∙ ap is_eq (order_cmp a b) ∙ go (order a b)
  where
    go : (o : Ordering) → is_eq o ≡ elim o [ Less ↦ false | Equal ↦ true | Greater ↦ false ]
    go Less = refl
    go Equal = refl
    go Greater = refl

pub returns : goal.returns
returns c = rw (c.eq.ensures, c.as_slice.ensures, c.as_slice-2.ensures) (bytes_same (text_bytes c.args.a) (text_bytes c.args.b))
