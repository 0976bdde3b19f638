-- Zeros over a region of the words or bytes.
use Rattle.std.proofs.Common.{◌≡◌, ℕ, ◌+◌, ◌≤◌, List, ◌++◌, length, take, drop, replicate, ap, ◌∙◌, arith, length-drop}
use lib.ListN.{length-replicate}
use lib.Seq.{sets, length-take-le}
use Rattle.memory_regions.specs.Cuts.{region, size}
use Rattle.memory_regions.specs.Regions.{word_sizes, word_count, heads_place, slots_place, regions, regions_of, with_heads, with_slots}
use Rattle.memory_regions.specs.Contents.{byte_sizes, byte_count, contents, contents_of, with_copies}
use Rattle.memory_regions.proofs.Cuts.{cut_lent, lent_sets}

-- n numbers from a on, filled with 0
filled_zeros : (l part : List ℕ) (a n : ℕ) → a + n ≤ length l
    → (((y : ℕ) → y ≡ 0 → y ≡ 0) → part ≡ replicate (length (take n (drop a l))) 0) → part ≡ replicate n 0
filled_zeros l part a n fits filled =
    filled (λ y h. h) ∙ ap (λ k. replicate k 0) (length-take-le n (drop a l) (rw length-drop (omega arith)))

-- ---- a region lent alone came back with other words or bytes

module _ (w part : List ℕ) (long : length w ≡ word_count) where
  heads_set : length part ≡ size word_sizes 1 → regions (sets w heads_place part) ≡ with_heads (regions w) part
  unfolding regions region
  heads_set whole = ap regions_of (cut_lent word_sizes 1 part w (omega arith) whole (omega arith))

  slots_set : length part ≡ size word_sizes 2 → regions (sets w slots_place part) ≡ with_slots (regions w) part
  unfolding regions region
  slots_set whole = ap regions_of (cut_lent word_sizes 2 part w (omega arith) whole (omega arith))

  pub heads_zeroed : (((y : ℕ) → y ≡ 0 → y ≡ 0) → part ≡ replicate (length (take (size word_sizes 1) (drop heads_place w))) 0)
      → regions (take heads_place w ++ (part ++ drop (size word_sizes 1) (drop heads_place w))) ≡ with_heads (regions w) (replicate (size word_sizes 1) 0)
  heads_zeroed filled =
      let z : part ≡ replicate (size word_sizes 1) 0 = filled_zeros w part heads_place (size word_sizes 1) (omega arith) filled in
      let whole : length part ≡ size word_sizes 1 = ap length z ∙ length-replicate {A = ℕ} (size word_sizes 1) 0 in
      ap regions (lent_sets heads_place (size word_sizes 1) w part whole (omega arith)) ∙ heads_set whole ∙ ap (with_heads (regions w)) z

  pub slots_zeroed : (((y : ℕ) → y ≡ 0 → y ≡ 0) → part ≡ replicate (length (take (size word_sizes 2) (drop slots_place w))) 0)
      → regions (take slots_place w ++ (part ++ drop (size word_sizes 2) (drop slots_place w))) ≡ with_slots (regions w) (replicate (size word_sizes 2) 0)
  slots_zeroed filled =
      let z : part ≡ replicate (size word_sizes 2) 0 = filled_zeros w part slots_place (size word_sizes 2) (omega arith) filled in
      let whole : length part ≡ size word_sizes 2 = ap length z ∙ length-replicate {A = ℕ} (size word_sizes 2) 0 in
      ap regions (lent_sets slots_place (size word_sizes 2) w part whole (omega arith)) ∙ slots_set whole ∙ ap (with_slots (regions w)) z

module _ (b part : List ℕ) (long : length b ≡ byte_count) where
  copies_set : length part ≡ size byte_sizes 0 → contents (sets b 0 part) ≡ with_copies (contents b) part
  unfolding contents region
  copies_set whole = ap contents_of (cut_lent byte_sizes 0 part b (omega arith) whole (omega arith))

  pub copies_zeroed : (((y : ℕ) → y ≡ 0 → y ≡ 0) → part ≡ replicate (length (take (size byte_sizes 0) (drop 0 b))) 0)
      → contents (take 0 b ++ (part ++ drop (size byte_sizes 0) (drop 0 b))) ≡ with_copies (contents b) (replicate (size byte_sizes 0) 0)
  copies_zeroed filled =
      let z : part ≡ replicate (size byte_sizes 0) 0 = filled_zeros b part 0 (size byte_sizes 0) (omega arith) filled in
      let whole : length part ≡ size byte_sizes 0 = ap length z ∙ length-replicate {A = ℕ} (size byte_sizes 0) 0 in
      ap contents (lent_sets 0 (size byte_sizes 0) b part whole (omega arith)) ∙ copies_set whole ∙ ap (with_copies (contents b)) z
