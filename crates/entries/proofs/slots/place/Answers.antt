-- `slots::place` meets its contract: the keys passed stand before k.
use lib.ListN.{length-map}
use mathlib.Core.Path.{sym, ◌∙◌}
use Rattle.entries.specs.Decoded.{entry_in}
use Rattle.entries.proofs.Placing.{placing_starts, placing_before, placing_same, placing_goes_on, placing_ends}
use Rattle.entries.proofs.Views.{next_slot}
use Rattle.entries.proofs.slots.place.Goals as goal

pub loop-at-init : goal.loop-at-init
loop-at-init c = placing_starts (rw length-map c.used-slot-items.ensures.low)

pub returns-in-Less : goal.returns-in-Less
unfolding entry_in
returns-in-Less c =
    rw c.used-slot-items.ensures.entries at
    (placing_before c.loop-at.invariant _ (next_slot _ _ c.loop-at-test.true) (sym c.compare.ensures ∙ c.in-Less.is))

pub returns-in-Equal : goal.returns-in-Equal
unfolding entry_in
returns-in-Equal c =
    rw c.used-slot-items.ensures.entries at
    (placing_same c.loop-at.invariant _ (next_slot _ _ c.loop-at-test.true) (sym c.compare.ensures ∙ c.in-Equal.is))

pub loop-at-preserved : goal.loop-at-preserved
unfolding entry_in
loop-at-preserved c =
    placing_goes_on c.loop-at.invariant _ (next_slot _ _ c.loop-at-test.true) (rw length-map c.loop-at-test.true)
    (sym c.compare.ensures ∙ c.in-Greater.is)

pub returns : goal.returns
returns c =
    rw c.count_of.ensures.is
    (rw c.used-slot-items.ensures.entries at (placing_ends c.loop-at.invariant (rw length-map c.loop-at-test.false)))
