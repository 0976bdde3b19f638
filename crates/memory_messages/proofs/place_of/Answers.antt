-- `memory_messages::place_of` meets its contract: the word that its callee reads, as one of the region.
use mathlib.Core.Path.{sym, ap, ◌∙◌}
use Prim.Native.Nat.{◌+◌, ◌%◌}
use native.Mathlib.Nat.{mod-lt}
use native.Mathlib.Omega.{arith}
use Rattle.memory.specs.Layout.{message_room, order_place, place_at}
use Rattle.memory_regions.proofs.Regions.{queue_at}
use borrow.Author.Rules.{rules}
use Rattle.memory_messages.proofs.place_of.Goals as goal

pub returns : goal.returns
unfolding place_at
returns c = (
  c.place_field.ensures ∙ ap (λ x. x % message_room) (sym (queue_at c.args.words.now (order_place + c.args.index) (search rules))),
  rw c.place_field.ensures (mod-lt _ (omega arith)),
)
