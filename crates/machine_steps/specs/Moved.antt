-- What the parts of a move make of the two arrays. `k` is the slot, `i` the place of the message handed over.
use Rattle.std.specs.Prelude.{List, ℕ}
use Rattle.entries.specs.Entries.{Entry}
use Rattle.server.specs.declared.Version.{Version}
use Rattle.server.specs.declared.Round.{Round}
use Rattle.server.specs.declared.Call.{Call}
use Rattle.memory.specs.Layout.{slot_of, put_head, put_version, put_round, put_call}
use Rattle.memory_regions.specs.Regions.{Regions, with_heads, with_slots}
use Rattle.memory_regions.specs.Contents.{Contents, with_copies, with_working}
use Rattle.moves.specs.declared.Local.{Local}
use Rattle.moves.specs.declared.Move.{Move}
use Rattle.moves.specs.declared.Filling.{Filling}
use Rattle.moves.specs.declared.Keeping.{Keeping}
use Rattle.views.specs.Memory.{Memory, memory}
use Rattle.views.specs.Changes.{filled_from, kept_from, put_local, slots_after}

-- the working content of slot k is filled; `made` is the new table
abbrev pub filled_contents : Contents → ℕ → ℕ → List Entry → Filling → Contents
filled_contents c k i made fills = with_working c (filled_from c.working c.copies c.payloads k i made fills)

-- the copy at slot k keeps a content
abbrev pub kept_contents : Contents → ℕ → ℕ → Keeping → Contents
kept_contents c k i keeps = with_copies c (kept_from c.copies c.working c.payloads k i keeps)

-- the records of slot k
abbrev pub put_slot : List ℕ → ℕ → Version → Round → Call → List ℕ
put_slot slots k v r c = put_call (put_round (put_version slots k v) k r) k c

-- the head of server s, and the rest at slot k
abbrev pub with_local : Regions → ℕ → ℕ → Local → Regions
with_local r s k l = with_slots (with_heads r (put_head r.heads s l.head)) (put_local r.slots k l)

-- the head and the slots of server s after a move
abbrev pub settled : Regions → ℕ → ℕ → ℕ → Move → Regions
settled r buckets s k v = with_slots (with_heads r (put_head r.heads s v.local.head)) (slots_after r.slots buckets s k v)

-- a move at server s and bucket b, once its working content is filled: the rest of `moved` in crates/views/specs/Changes.antt
abbrev pub moved_filled : Memory → ℕ → ℕ → ℕ → ℕ → Move → Memory
moved_filled m buckets s b i v =
    memory
    m.counts
    (put_head m.heads s v.local.head)
    (slots_after m.slots buckets s (slot_of s b) v)
    (kept_from m.copies m.working m.payloads (slot_of s b) i v.keeps)
    m.working
    m.texts
    m.queue
    m.payloads
