-- What is left of the two arrays after the words of a call were stored.
use Rattle.std.specs.Prelude.{◌≡◌, ℕ}
use Rattle.server.specs.declared.Words.{Words}
use Rattle.memory.specs.Layout.{put_words, put_texts}
use Rattle.memory.specs.Lent.{Lent}
use Rattle.memory_regions.specs.Regions.{Regions, old_regions, new_regions, with_slots}
use Rattle.memory_regions.specs.Contents.{Contents, old_contents, new_contents, with_texts}

-- the words of the call at slot k, in the slots and in the texts
pub record StoredWords (r : Regions) (c : Contents) (k : ℕ) (w : Words) (r' : Regions) (c' : Contents) : Type 0 where
  pub numbers : r' ≡ with_slots r (put_words r.slots k w)
  pub texts : c' ≡ with_texts c (put_texts c.texts k w)

abbrev pub StoresWords : (words bytes : Lent) → ℕ → Words → Type 0
StoresWords words bytes k w = StoredWords (old_regions words) (old_contents bytes) k w (new_regions words) (new_contents bytes)
