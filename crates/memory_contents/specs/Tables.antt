-- What is left of the bytes after the bucket form of a table was written as a content.
use Rattle.std.specs.Prelude.{◌≡◌, List, ◌++◌, ℕ, length, drop}
use Rattle.blocks.specs.Blocks.{block}
use Rattle.entries.specs.Entries.{Entry}
use Rattle.table.specs.Form.{bucket_bytes}
use Rattle.model.specs.Measures.{max_entries, max_value_bytes}
use Rattle.memory.specs.Lent.{Lent, was, is}
use Rattle.memory.specs.Layout.{content_size, content_bytes, put_content}
use Rattle.memory_regions.specs.Contents.{byte_count}

-- a table's bucket form over the first bytes of a content
abbrev pub form_over : List Entry → List ℕ → List ℕ
form_over t v = bucket_bytes max_entries max_value_bytes t ++ drop content_bytes v

-- content i has the form of t; the two lengths are what laws of regions ask for
pub record PutTable (bytes : List ℕ) (i : ℕ) (t : List Entry) (bytes' : List ℕ) : Type 0 where
  pub stored : bytes' ≡ put_content bytes i (form_over t (block content_size i bytes))
  pub whole : length (form_over t (block content_size i bytes)) ≡ content_size
  pub long : length bytes ≡ byte_count

abbrev pub PutsTable : (bytes : Lent) → ℕ → List Entry → Type 0
PutsTable bytes i t = PutTable (was bytes) i t (is bytes)
