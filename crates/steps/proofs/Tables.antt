-- A table's bucket form put into its place among the contents.
use mathlib.Core.Path.{◌≡◌, ap, ◌∙◌}
use mathlib.Core.List.{List, ◌++◌, append_assoc}
use Prim.Native.Nat.{ℕ, ◌+◌, ◌*◌, ◌≤◌}
use lib.ListN.{length, take, drop}
use lib.Seq.{drop-drop}
use Rattle.blocks.specs.Blocks.{block}
use Rattle.blocks.proofs.Laws.{length_block, stored_list}
use Rattle.entries.specs.Entries.{Entry}
use Rattle.table.specs.Form.{bucket_bytes}
use Rattle.memory.specs.Layout.{put_content}
use Rattle.views.specs.Changes.{put_table}

-- the part that was lent came back with the form of t over its first bytes
pub table_stored : (l : List ℕ) (k n : ℕ) (t : List Entry) (part : List ℕ) → n ≡ 128 → (k + 1) * 128 ≤ length l → length part ≡ length (take n (drop (k * 128) l)) → part ≡ bucket_bytes 4 16 t ++ drop 113 (take n (drop (k * 128) l)) → take (k * 128) l ++ (part ++ drop n (drop (k * 128) l)) ≡ put_table l k t
unfolding put_table put_content block
table_stored l k n t part z room same e =
    let w : length part ≡ 128 = same ∙ ap (λ i. length (take i (drop (k * 128) l))) z ∙ length_block 128 k l room in
    let f : part ≡ bucket_bytes 4 16 t ++ drop 113 (take 128 (drop (k * 128) l)) = e ∙ ap (λ i. bucket_bytes 4 16 t ++ drop 113 (take i (drop (k * 128) l))) z in
    rw (z, ← f, stored_list 128 k l part w room, drop-drop 128 (k * 128) l, append_assoc)
