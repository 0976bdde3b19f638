-- A content stored in a region of the bytes and one read of it, by the region's name; and bytes of the keys and values of calls.
use mathlib.Core.Path.{◌≡◌, sym, ap, ◌∙◌}
use mathlib.Core.List.{List, ◌++◌}
use Prim.Native.Nat.{ℕ, ◌+◌, ◌*◌, ◌≤◌, ◌<◌}
use native.Mathlib.Omega.{arith}
use lib.ListN.{length, set, take, drop}
use lib.Seq.{sets, sets-eq, paste}
use Rattle.blocks.specs.Blocks.{block}
use Rattle.blocks.proofs.Laws.{stored_list}
use Rattle.memory.specs.Layout.{slot_room, message_room, content_size, put_content}
use Rattle.memory_regions.specs.Cuts.{cut, region, start, size}
use Rattle.memory_regions.specs.Contents.{byte_sizes, byte_count, texts_place, first_copy, first_working, first_payload, contents, contents_of, with_texts, copy_of, working_of, payload_of, put_copy, put_working, put_payload}
use Rattle.memory_regions.proofs.Cuts.{cut_sets, cut_paste, region_part, length_region}

-- a content stored, as a run of stores
content_sets : (l v : List ℕ) (i : ℕ) → length v ≡ content_size → (i + 1) * content_size ≤ length l → put_content l i v ≡ sets l (i * content_size) v
unfolding put_content
content_sets l v i whole h =
    stored_list content_size i l v whole h
    ∙ sym (sets-eq v l (i * content_size) (omega arith) ∙ ap (λ n. take (i * content_size) l ++ v ++ drop (i * content_size + n) l) whole)

-- content i of region r, which begins with content a, is content a + i of the array
module _ (r a i : ℕ) (b : List ℕ) (among : r < length byte_sizes) (begins : start byte_sizes r ≡ a * content_size) (inside : (i + 1) * content_size ≤ size byte_sizes r) where
  content_read : block content_size i (region byte_sizes r b) ≡ block content_size (a + i) b
  unfolding block
  content_read =
      let e : start byte_sizes r + i * content_size ≡ (a + i) * content_size = omega arith in
      region_part byte_sizes r (i * content_size) content_size b among (omega arith) ∙ ap (λ p. take content_size (drop p b)) e

  content_stored : (v : List ℕ) → length v ≡ content_size → start byte_sizes r + size byte_sizes r ≤ length b
      → cut byte_sizes (put_content b (a + i) v) ≡ set (cut byte_sizes b) r (put_content (region byte_sizes r b) i v)
  content_stored v whole fits =
      let e : (a + i) * content_size ≡ start byte_sizes r + i * content_size = omega arith in
      let room : (i + 1) * content_size ≤ length (region byte_sizes r b) = rw (length_region byte_sizes r b among fits) inside in
      rw (content_sets b v (a + i) whole (omega arith), content_sets (region byte_sizes r b) v i whole room, e)
      (cut_sets byte_sizes r (i * content_size) v b among (omega arith))

module _ (i : ℕ) (b : List ℕ) where
  pub copy_read : i < slot_room → copy_of (contents b) i ≡ block content_size (first_copy + i) b
  unfolding contents region
  copy_read h = content_read 0 first_copy i b (omega arith) (omega arith) (omega arith)

  pub working_read : i < slot_room → working_of (contents b) i ≡ block content_size (first_working + i) b
  unfolding contents region
  working_read h = content_read 1 first_working i b (omega arith) (omega arith) (omega arith)

  pub payload_read : i < message_room → payload_of (contents b) i ≡ block content_size (first_payload + i) b
  unfolding contents region
  payload_read h = content_read 2 first_payload i b (omega arith) (omega arith) (omega arith)

module _ (i : ℕ) (b v : List ℕ) (long : length b ≡ byte_count) (whole : length v ≡ content_size) where
  pub copy_stored : i < slot_room → contents (put_content b (first_copy + i) v) ≡ put_copy (contents b) i v
  unfolding contents region
  copy_stored h = ap contents_of (content_stored 0 first_copy i b (omega arith) (omega arith) (omega arith) v whole (omega arith))

  pub working_stored : i < slot_room → contents (put_content b (first_working + i) v) ≡ put_working (contents b) i v
  unfolding contents region
  working_stored h = ap contents_of (content_stored 1 first_working i b (omega arith) (omega arith) (omega arith) v whole (omega arith))

  pub payload_stored : i < message_room → contents (put_content b (first_payload + i) v) ≡ put_payload (contents b) i v
  unfolding contents region
  payload_stored h = ap contents_of (content_stored 2 first_payload i b (omega arith) (omega arith) (omega arith) v whole (omega arith))

-- keys and values of calls: m bytes copied to place p, and m bytes read there
pub texts_stored : (b v : List ℕ) (p m : ℕ) → length b ≡ byte_count → p + m ≤ size byte_sizes 3 → m ≤ length v
    → contents (paste b (texts_place + p) v m) ≡ with_texts (contents b) (paste (contents b).texts p v m)
unfolding contents region
texts_stored b v p m long inside has = ap contents_of (cut_paste byte_sizes 3 p v m b (omega arith) inside has (omega arith))

pub texts_part : (b : List ℕ) (p m : ℕ) → p + m ≤ size byte_sizes 3 → take m (drop p (contents b).texts) ≡ take m (drop (texts_place + p) b)
unfolding contents region
texts_part b p m inside = region_part byte_sizes 3 p m b (omega arith) inside
