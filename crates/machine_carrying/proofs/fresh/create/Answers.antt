-- `fresh::create` meets its contract: region by region.
use Rattle.runs.specs.Runs.{fresh_memory}
use Rattle.machine_carrying.proofs.fresh.create.Goals as goal

pub returns : goal.returns
unfolding fresh_memory
returns c =
    rw (
      c.zero_copies.ensures,
      c.store_counts.ensures,
      c.fresh_counts.ensures,
      c.free_places.ensures,
      c.zero_slots.ensures,
      c.zero_heads.ensures,
      fresh_memory,
    )
