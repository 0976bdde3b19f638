-- The words in regions. A region is read and written as an array of its own: the definitions of crates/memory/specs/Layout.antt speak of it.
use Rattle.std.specs.Prelude.{List, [], ◌∷◌, ℕ, ◌*◌, get_or}
use Rattle.memory.specs.Layout.{server_room, slot_room, head_size, slot_size, queue_length}
use Rattle.memory_regions.specs.Cuts.{cut, start}
use Rattle.memory.specs.Lent.{Lent, was, is}

-- counts, heads, slots, and the queue, which is the headers of messages and their order
abbrev pub counts_size : ℕ
counts_size = 8

abbrev pub word_sizes : List ℕ
word_sizes = counts_size ∷ server_room * head_size ∷ slot_room * slot_size ∷ queue_length ∷ []

abbrev pub counts_place : ℕ
counts_place = start word_sizes 0

abbrev pub heads_place : ℕ
heads_place = start word_sizes 1

abbrev pub slots_place : ℕ
slots_place = start word_sizes 2

abbrev pub queue_place : ℕ
queue_place = start word_sizes 3

abbrev pub word_count : ℕ
word_count = start word_sizes 4

-- ---- by their names

pub record Regions : Type 0 where
  pub counts : List ℕ
  pub heads : List ℕ
  pub slots : List ℕ
  pub queue : List ℕ

abbrev pub regions_of : List (List ℕ) → Regions
regions_of x = record { counts = get_or x 0 []; heads = get_or x 1 []; slots = get_or x 2 []; queue = get_or x 3 [] }

unfoldable pub regions : List ℕ → Regions
regions words = regions_of (cut word_sizes words)

abbrev pub old_regions : Lent → Regions
old_regions words = regions (was words)

abbrev pub new_regions : Lent → Regions
new_regions words = regions (is words)

-- ---- one region replaced

abbrev pub with_counts : Regions → List ℕ → Regions
with_counts r l = record { counts = l; heads = r.heads; slots = r.slots; queue = r.queue }

abbrev pub with_heads : Regions → List ℕ → Regions
with_heads r l = record { counts = r.counts; heads = l; slots = r.slots; queue = r.queue }

abbrev pub with_slots : Regions → List ℕ → Regions
with_slots r l = record { counts = r.counts; heads = r.heads; slots = l; queue = r.queue }

abbrev pub with_queue : Regions → List ℕ → Regions
with_queue r l = record { counts = r.counts; heads = r.heads; slots = r.slots; queue = l }
