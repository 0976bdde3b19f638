-- `slots::store_version` meets its contract: what its callee stores, as words of the region.
use Prim.Native.Nat.{◌*◌}
use Rattle.memory.specs.Layout.{put_version, slot_size, version_place, version_row}
use Rattle.memory_regions.proofs.Regions.{slots_stored}
use borrow.Author.Rules.{rules}
use Rattle.memory_records.proofs.slots.store_version.Goals as goal

pub returns : goal.returns
unfolding put_version
returns c =
    rw c.version_stores.ensures (slots_stored c.args.words.now (version_row c.args.version) (c.args.slot * slot_size) version_place (search rules))
