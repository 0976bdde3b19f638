-- `slots::store_call` meets its contract: what its callee stores, as words of the region.
use Prim.Native.Nat.{◌*◌}
use Rattle.memory.specs.Layout.{call_place, call_row, put_call, slot_size}
use Rattle.memory_regions.proofs.Regions.{slots_stored}
use borrow.Author.Rules.{rules}
use Rattle.memory_records.proofs.slots.store_call.Goals as goal

pub returns : goal.returns
unfolding put_call
returns c = rw c.call_stores.ensures (slots_stored c.args.words.now (call_row c.args.call) (c.args.slot * slot_size) call_place (search rules))
