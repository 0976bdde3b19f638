-- The order of messages ends the words: lent alone and rotated, it leaves the queue without a place, numbered anew with all places free,
-- and the other regions as they were.
use mathlib.Core.Path.{◌≡◌, refl, sym, ap, ◌∙◌}
use mathlib.Core.List.{List, [], ◌++◌, append-nil}
use Prim.Native.Nat.{ℕ, ◌+◌, ◌-◌, ◌≤◌, ◌<◌}
use native.Mathlib.Omega.{arith}
use lib.ListN.{length, take, drop, drop_of_length-le, length-drop}
use lib.Seq.{sets, sets-eq, take_all, length-take-le}
use borrow.Author.Tests.{lt-ltb}
use Rattle.blocks.specs.Order.{rotated, rising}
use Rattle.blocks.proofs.Order.{length_rotated, length_rising}
use Rattle.memory.specs.Layout.{message_room, queue_length, order_place, without_place, fresh_places}
use Rattle.memory_regions.specs.Cuts.{region}
use Rattle.memory_regions.specs.Regions.{word_sizes, word_count, queue_place, regions, regions_of, with_queue}
use Rattle.memory_regions.proofs.Cuts.{cut_sets, region_part, length_region, lent_sets}

-- where the order begins in the words
abbrev order_start : ℕ
order_start = queue_place + order_place

queue_region : (w : List ℕ) → (regions w).queue ≡ region word_sizes 3 w
unfolding regions region
queue_region w = refl

order_sets : (w part : List ℕ) → length part ≡ message_room → regions (sets w order_start part) ≡ with_queue (regions w) (sets (regions w).queue order_place part)
unfolding regions region
order_sets w part whole = ap regions_of (cut_sets word_sizes 3 order_place part w (omega arith) (omega arith))

-- a run of stores up to the end of the queue
sets_last : (q part : List ℕ) → length q ≡ queue_length → length part ≡ message_room → sets q order_place part ≡ take order_place q ++ part
sets_last q part long whole =
    let past : drop (order_place + length part) q ≡ [] = drop_of_length-le q {i = order_place + length part} (omega arith) in
    sets-eq part q order_place (omega arith) ∙ ap (λ r. take order_place q ++ part ++ r) past ∙ append-nil (take order_place q ++ part)

module _ (w : List ℕ) (long : length w ≡ word_count) where
  queue_length_lem : length (regions w).queue ≡ queue_length
  queue_length_lem = ap length (queue_region w) ∙ length_region word_sizes 3 w (omega arith) (omega arith)

  order_part : take message_room (drop order_start w) ≡ drop order_place (regions w).queue
  order_part =
      let n = queue_length_lem in
      sym (region_part word_sizes 3 order_place message_room w (omega arith) (omega arith))
      ∙ ap (λ q. take message_room (drop order_place q)) (sym (queue_region w))
      ∙ take_all message_room (drop order_place (regions w).queue) (rw length-drop (omega arith))

  -- the order came back as another
  order_replaced : (part : List ℕ) → length part ≡ message_room
      → regions (take order_start w ++ (part ++ drop message_room (drop order_start w))) ≡ with_queue (regions w) (take order_place (regions w).queue ++ part)
  order_replaced part whole =
      let q = queue_length_lem in
      ap regions (lent_sets order_start message_room w part whole (omega arith))
      ∙ order_sets w part whole
      ∙ ap (with_queue (regions w)) (sets_last (regions w).queue part q whole)

  pub order_freed : (part : List ℕ) → part ≡ rising 0 (length (take message_room (drop order_start w)))
      → regions (take order_start w ++ (part ++ drop message_room (drop order_start w))) ≡ with_queue (regions w) (fresh_places (regions w).queue)
  unfolding fresh_places
  order_freed part numbered =
      let e : part ≡ rising 0 message_room = numbered ∙ ap (rising 0) (length-take-le message_room (drop order_start w) (rw length-drop (omega arith))) in
      order_replaced part (ap length e ∙ length_rising message_room 0) ∙ ap (λ p. with_queue (regions w) (take order_place (regions w).queue ++ p)) e

  pub order_rotated : (n i : ℕ) (part : List ℕ) → i < n → n ≤ message_room → part ≡ rotated n i (take message_room (drop order_start w))
      → regions (take order_start w ++ (part ++ drop message_room (drop order_start w))) ≡ with_queue (regions w) (without_place n i (regions w).queue)
  unfolding without_place
  order_rotated n i part among few e =
      let order : List ℕ = drop order_place (regions w).queue in
      let q = queue_length_lem in
      let size : length order ≡ message_room = rw length-drop (omega arith) in
      let same : part ≡ rotated n i order = e ∙ ap (rotated n i) order_part in
      let whole : length part ≡ message_room = ap length same ∙ length_rotated n i order among (omega arith) ∙ size in
      let kept : take order_place (regions w).queue ++ part ≡ without_place n i (regions w).queue = rw (without_place, lt-ltb i n among, same) in
      order_replaced part whole ∙ ap (with_queue (regions w)) kept
