-- Decoded tables: what stands at a key's place, and what the changes of the slots are to the table.
use mathlib.Core.Path.{◌≡◌, sym, ap, ◌∙◌}
use mathlib.Core.List.{List, ◌∷◌, [], ◌++◌}
use mathlib.Core.Bool.{true, false}
use mathlib.Core.Option.{some}
use Prim.Native.Nat.{ℕ, ◌≤◌, ◌<◌, ◌+◌, ◌-◌}
use native.Mathlib.Omega.{arith}
use native.Mathlib.Numerals.{add-one}
use lib.ListN.{length, take, drop, get_or, set}
use Rattle.entries.specs.declared.Slot.{Slot}
use Rattle.entries.specs.declared.Decoded.{Decoded}
use Rattle.entries.specs.Entries.{entry, value_of, remove, put}
use Rattle.entries.specs.Decoded.{Counted, value_bytes, entry_in, table_in, blank}
use Rattle.entries.specs.Places.{Leads}
use Rattle.entries.proofs.Views.{table_whole, entry_at}
use Rattle.entries.proofs.Shifts.{part_replaced, part_inserted, part_removed}
use Rattle.entries.proofs.Placing.{leading_within, held_within, held_put, new_put, held_remove, held_value}

pub held_below : {k : List ℕ} (t : Decoded) {at : ℕ} → Leads k (table_in t) at true → at < length (table_in t)
held_below {k} t c = rw c.at_is (held_within k (table_in t) (sym c.held_is))

pub held_four : {k : List ℕ} (t : Decoded) {at : ℕ} → Leads k (table_in t) at true → at < 4
held_four t c = omega (arith, held_below t c, c.low)

pub place_within : {k : List ℕ} (t : Decoded) {at : ℕ} → Leads k (table_in t) at false → at ≤ length (table_in t)
place_within {k} t c = rw c.at_is (leading_within k (table_in t))

pub found : {k : List ℕ} (t : Decoded) {at : ℕ} → Leads k (table_in t) at true → some (value_bytes (get_or t.slots at blank).value) ≡ value_of k (table_in t)
unfolding entry_in
found {k} t {at} c =
    sym
    (held_value k (table_in t) (entry_in blank) (sym c.held_is)
    ∙ ap (λ i. some (get_or (table_in t) i (entry_in blank)).value) (sym c.at_is)
    ∙ ap (λ e. some e.value) (entry_at t at (held_below t c)))

module _ {k : List ℕ} (t : Decoded) {at n : ℕ} (d : Counted t n) where
  pub table_removed : (r : List Slot) → Leads k (table_in t) at true → take 3 r ≡ take at t.slots ++ drop (at + 1) t.slots → table_in (record { count = n - 1; slots = r }) ≡ remove k (table_in t)
  unfolding table_in
  table_removed r c q =
      part_removed entry_in 3 n at t.slots r (rw d.is (held_below t c)) d.low d.four q
      ∙ rw (table_whole t d, add-one at, c.at_is)
      (sym (held_remove k (table_in t) (sym c.held_is)))

  pub table_replaced : (v : List ℕ) (s : Slot) → entry_in s ≡ entry k v → Leads k (table_in t) at true → table_in (record { count = n; slots = set t.slots at s }) ≡ put k v (table_in t)
  unfolding table_in
  table_replaced v s e c =
      part_replaced entry_in 3 n at t.slots [] s (rw d.is (held_below t c))
      ∙ rw (table_whole t d, c.at_is, e)
      (sym (held_put k v (table_in t) (sym c.held_is)))

  pub table_inserted : (v : List ℕ) (s : Slot) (r : List Slot) → entry_in s ≡ entry k v → Leads k (table_in t) at false → n < 4 → r ≡ take 4 (take at t.slots ++ (s ∷ drop at t.slots)) → table_in (record { count = n + 1; slots = r }) ≡ put k v (table_in t)
  unfolding table_in
  table_inserted v s r e c m q =
      part_inserted entry_in 4 n at t.slots r s (rw d.is (place_within t c)) m d.four q
      ∙ rw (table_whole t d, c.at_is, e)
      (sym (new_put k v (table_in t) (sym c.held_is)))
