-- `messages::place_of` meets its contract: what its callee reads, by its name.
use native.Mathlib.Nat.{mod-lt}
use native.Mathlib.Omega.{arith}
use Rattle.memory.specs.Layout.{place_at}
use Rattle.messages.proofs.place_of.Goals as goal

pub returns : goal.returns
unfolding place_at
returns c = (c.place_field.ensures, rw c.place_field.ensures (mod-lt _ (omega arith)))
