-- A content stored is read back, the other contents stay. n is the number of contents that the array has room for.
use mathlib.Core.Path.{◌≡◌, ap}
use mathlib.Core.Logic.{◌≢◌}
use mathlib.Core.List.{List}
use Prim.Native.Nat.{ℕ, ◌+◌, ◌*◌, ◌≤◌, ◌<◌}
use native.Mathlib.Omega.{arith}
use lib.ListN.{length, take}
use Rattle.blocks.specs.Blocks.{block}
use Rattle.blocks.proofs.Laws.{length_block, length_stored}
use Rattle.memory.specs.Layout.{content_size, content_bytes, content_at, put_content}
use Rattle.memory.proofs.Parts.{block_stored, block_elsewhere}

module _ (n i : ℕ) (l v : List ℕ) (whole : length v ≡ content_size) (among : i < n) (fits : n * content_size ≤ length l) where
  pub length-put_content : length (put_content l i v) ≡ length l
  unfolding put_content
  length-put_content = length_stored content_size i l v whole (omega arith)

  pub block_put_content : block content_size i (put_content l i v) ≡ v
  unfolding put_content
  block_put_content = block_stored content_size n i l v whole among fits

  pub content_put_content : content_at (put_content l i v) i ≡ take content_bytes v
  unfolding content_at
  content_put_content = ap (take content_bytes) block_put_content

  pub content_elsewhere : (k : ℕ) → k < n → k ≢ i → content_at (put_content l i v) k ≡ content_at l k
  unfolding content_at put_content
  content_elsewhere k here different = ap (take content_bytes) (block_elsewhere content_size n i l v whole among fits k here different)

-- a content copied reads as its source's
pub content_copied : (n i : ℕ) (l : List ℕ) (j : ℕ) (s : List ℕ) → i < n → n * content_size ≤ length l → (j + 1) * content_size ≤ length s
    → content_at (put_content l i (block content_size j s)) i ≡ content_at s j
unfolding content_at
content_copied n i l j s among fits source = content_put_content n i l (block content_size j s) (length_block content_size j s source) among fits
