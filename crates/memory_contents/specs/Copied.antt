-- What is left of the bytes after a content was copied, and how many bytes there are: laws of regions ask for it.
use Rattle.std.specs.Prelude.{◌≡◌, List, ℕ, length}
use Rattle.blocks.specs.Blocks.{block}
use Rattle.memory.specs.Layout.{content_size, put_content}
use Rattle.memory.specs.Lent.{Lent, was, is}
use Rattle.memory_regions.specs.Contents.{byte_count}

-- content i has got the bytes of content j
pub record CopiedContent (bytes : List ℕ) (i j : ℕ) (bytes' : List ℕ) : Type 0 where
  pub stored : bytes' ≡ put_content bytes i (block content_size j bytes)
  pub long : length bytes ≡ byte_count

abbrev pub CopiesContent : (bytes : Lent) → ℕ → ℕ → Type 0
CopiesContent bytes i j = CopiedContent (was bytes) i j (is bytes)
