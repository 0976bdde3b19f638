-- A row stored in a region of the words, and a row read of it, by the region's name. Every law is the one of cuts, at that region.
use mathlib.Core.Path.{◌≡◌, ap}
use mathlib.Core.List.{List}
use Prim.Native.Nat.{ℕ, ◌+◌, ◌≤◌, ◌<◌}
use native.Mathlib.Omega.{arith}
use lib.ListN.{length, get_or}
use Rattle.memory.specs.Rows.{row, put_row}
use Rattle.memory_regions.specs.Cuts.{region, size}
use Rattle.memory_regions.specs.Regions.{word_sizes, counts_place, heads_place, slots_place, queue_place, regions, regions_of, with_counts, with_heads, with_slots, with_queue}
use Rattle.memory_regions.proofs.Cuts.{cut_put_row, region_row, region_at}

module _ (w vs : List ℕ) (p o : ℕ) where
  pub counts_stored : p + o + length vs ≤ size word_sizes 0 → regions (put_row w (counts_place + p) o vs) ≡ with_counts (regions w) (put_row (regions w).counts p o vs)
  unfolding regions region
  counts_stored h = ap regions_of (cut_put_row word_sizes 0 p o vs w (omega arith) h)

  pub heads_stored : p + o + length vs ≤ size word_sizes 1 → regions (put_row w (heads_place + p) o vs) ≡ with_heads (regions w) (put_row (regions w).heads p o vs)
  unfolding regions region
  heads_stored h = ap regions_of (cut_put_row word_sizes 1 p o vs w (omega arith) h)

  pub slots_stored : p + o + length vs ≤ size word_sizes 2 → regions (put_row w (slots_place + p) o vs) ≡ with_slots (regions w) (put_row (regions w).slots p o vs)
  unfolding regions region
  slots_stored h = ap regions_of (cut_put_row word_sizes 2 p o vs w (omega arith) h)

  pub queue_stored : p + o + length vs ≤ size word_sizes 3 → regions (put_row w (queue_place + p) o vs) ≡ with_queue (regions w) (put_row (regions w).queue p o vs)
  unfolding regions region
  queue_stored h = ap regions_of (cut_put_row word_sizes 3 p o vs w (omega arith) h)

module _ (w : List ℕ) (m p o : ℕ) where
  pub counts_row_lem : p + o + m ≤ size word_sizes 0 → row p o m (regions w).counts ≡ row (counts_place + p) o m w
  unfolding regions region
  counts_row_lem h = region_row word_sizes 0 m p o w (omega arith) h

  pub heads_row : p + o + m ≤ size word_sizes 1 → row p o m (regions w).heads ≡ row (heads_place + p) o m w
  unfolding regions region
  heads_row h = region_row word_sizes 1 m p o w (omega arith) h

  pub slots_row : p + o + m ≤ size word_sizes 2 → row p o m (regions w).slots ≡ row (slots_place + p) o m w
  unfolding regions region
  slots_row h = region_row word_sizes 2 m p o w (omega arith) h

  pub queue_row : p + o + m ≤ size word_sizes 3 → row p o m (regions w).queue ≡ row (queue_place + p) o m w
  unfolding regions region
  queue_row h = region_row word_sizes 3 m p o w (omega arith) h

-- one word of the queue
pub queue_at : (w : List ℕ) (i : ℕ) → i < size word_sizes 3 → get_or (regions w).queue i 0 ≡ get_or w (queue_place + i) 0
unfolding regions region
queue_at w i h = region_at word_sizes 3 i w 0 (omega arith) h
