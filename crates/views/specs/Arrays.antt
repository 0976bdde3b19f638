-- The cluster's memory in the two lent arrays, words and bytes, and in contracts: what it was when a function was called, and what it is
-- when the function returns.
use Rattle.memory.specs.Lent.{Lent}
use Rattle.memory_regions.specs.Regions.{Regions, old_regions, new_regions}
use Rattle.memory_regions.specs.Contents.{Contents, old_contents, new_contents}
use Rattle.views.specs.Memory.{Memory, memory}

abbrev pub memory_of : Regions → Contents → Memory
memory_of r c = memory r.counts r.heads r.slots c.copies c.working c.texts r.queue c.payloads

abbrev pub old_memory : (words bytes : Lent) → Memory
old_memory words bytes = memory_of (old_regions words) (old_contents bytes)

abbrev pub new_memory : (words bytes : Lent) → Memory
new_memory words bytes = memory_of (new_regions words) (new_contents bytes)
