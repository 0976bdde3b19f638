-- A table's bucket form put into its place among the contents.
use mathlib.Core.Path.{◌≡◌, ap, sym, ◌∙◌}
use mathlib.Core.List.{List, ◌++◌, append_assoc}
use Prim.Native.Nat.{ℕ, ◌+◌, ◌*◌, ◌≤◌}
use lib.ListN.{length, take, drop}
use lib.Seq.{drop-drop}
use Rattle.blocks.specs.Blocks.{block}
use Rattle.blocks.proofs.Laws.{length_block, stored_list}
use Rattle.entries.specs.Entries.{Entry}
use Rattle.memory.specs.Layout.{content_size, put_content}
use Rattle.memory_regions.specs.Contents.{byte_count}
use Rattle.memory_contents.specs.Tables.{form_over, PutTable}

-- the part that was lent came back with the form of t over its first bytes
module _ (l : List ℕ) (i n : ℕ) (t : List Entry) (part : List ℕ) (size : n ≡ content_size) (room : (i + 1) * content_size ≤ length l) (long : length l ≡ byte_count) where
  pub table_put : length part ≡ length (take n (drop (i * content_size) l)) → part ≡ form_over t (take n (drop (i * content_size) l))
      → PutTable l i t (take (i * content_size) l ++ (part ++ drop n (drop (i * content_size) l)))
  unfolding put_content block
  table_put same e =
      let w : length part ≡ content_size = same ∙ ap (λ k. length (take k (drop (i * content_size) l))) size ∙ length_block content_size i l room in
      let f : part ≡ form_over t (block content_size i l) = e ∙ ap (λ k. form_over t (take k (drop (i * content_size) l))) size in
      record {
        stored = rw (size, ← f, stored_list content_size i l part w room, drop-drop content_size (i * content_size) l, append_assoc);
        whole = ap length (sym f) ∙ w;
        long = long;
      }
