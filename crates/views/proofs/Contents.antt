-- The contents after a step: the slot's tables are those of the definitions, the others stay.
use mathlib.Core.Path.{◌≡◌, refl, ap, ◌∙◌}
use mathlib.Core.Logic.{◌≢◌}
use mathlib.Core.Bool.{true}
use mathlib.Core.List.{List, ◌++◌}
use Prim.Native.Nat.{ℕ, ◌+◌, ◌*◌, ◌≤◌, ◌<◌}
use native.Mathlib.Omega.{arith}
use lib.ListN.{length, drop, length-append, length-drop}
use lib.Seq.{take_at}
use Rattle.blocks.specs.Blocks.{block}
use Rattle.blocks.proofs.Laws.{length_block}
use Rattle.entries.specs.Entries.{Entry}
use Rattle.table.specs.Form.{fits, bucket_bytes, bucket_size, table_of}
use Rattle.table.proofs.Reading.{length_bucket, table_of_form}
use Rattle.model.specs.Measures.{max_entries, max_value_bytes}
use Rattle.memory.specs.Layout.{slot_room, message_room, content_size, content_bytes, put_content}
use Rattle.messages.proofs.ContentLaws.{length-put_content, content_put_content, content_elsewhere, content_copied}
use Rattle.moves.specs.declared.Move.{Move}
use Rattle.moves.specs.declared.Filling.{Filling}
use Rattle.moves.specs.declared.Filling.TheVariants as filling
use Rattle.moves.specs.declared.Keeping.{Keeping}
use Rattle.moves.specs.declared.Keeping.TheVariants as keeping
use Rattle.moves.specs.Reactions.{Tables, work_after, copy_after}
use Rattle.views.specs.Memory.{Memory, Sized, table_at}
use Rattle.views.specs.Changes.{put_table, filled, kept, filled_from, kept_from}

-- the tables that a step at slot k works on, with message i and the call's new table
abbrev pub tables_at : Memory → ℕ → ℕ → List Entry → Tables
tables_at m k i made = record { copy = table_at m.copies k; work = table_at m.working k; made = made; message = table_at m.payloads i }

-- contents `after` are `before` with table t at slot k
pub record Placed (k : ℕ) (before after : List ℕ) (t : List Entry) : Type 0 where
  pub size : length after ≡ length before
  pub there : table_at after k ≡ t
  pub others : (j : ℕ) → j < slot_room → j ≢ k → table_at after j ≡ table_at before j

placed_none : (k : ℕ) (l : List ℕ) → Placed k l l (table_at l k)
placed_none k l = record { size = refl; there = refl; others = λ j h d. refl }

module _ (k : ℕ) (l : List ℕ) (among : k < slot_room) (room : length l ≡ 7168) where
  placed_copy : (i : ℕ) (s : List ℕ) → (i + 1) * content_size ≤ length s → Placed k l (put_content l k (block content_size i s)) (table_at s i)
  unfolding table_at
  placed_copy i s source =
      let whole = length_block content_size i s source in
      record {
        size = length-put_content slot_room k l (block content_size i s) whole among (omega arith);
        there = ap (table_of max_entries max_value_bytes) (content_copied slot_room k l i s among (omega arith) source);
        others = λ j h d. ap (table_of max_entries max_value_bytes) (content_elsewhere slot_room k l (block content_size i s) whole among (omega arith) j h d);
      }

  placed_table : (t : List Entry) → fits max_entries max_value_bytes t ≡ true → Placed k l (put_table l k t) t
  unfolding table_at put_table bucket_size
  placed_table t f =
      let v = bucket_bytes max_entries max_value_bytes t ++ drop content_bytes (block content_size k l) in
      let form : length (bucket_bytes max_entries max_value_bytes t) ≡ content_bytes = length_bucket max_entries max_value_bytes t f in
      let old = length_block content_size k l (omega arith) in
      let whole : length v ≡ content_size = rw (length-append, length-drop) (omega arith) in
      record {
        size = length-put_content slot_room k l v whole among (omega arith);
        there =
            ap (table_of max_entries max_value_bytes)
            (content_put_content slot_room k l v whole among (omega arith)
            ∙ take_at (bucket_bytes max_entries max_value_bytes t) (drop content_bytes (block content_size k l)) content_bytes form)
            ∙ table_of_form max_entries max_value_bytes t f;
        others = λ j h d. ap (table_of max_entries max_value_bytes) (content_elsewhere slot_room k l v whole among (omega arith) j h d);
      }

module _ (m : Memory) (sized : Sized m) (k i : ℕ) (slot : k < slot_room) (message : i < message_room) (v : Move) (made : List Entry)
    (form : v.fills ≡ filling.Table → fits max_entries max_value_bytes made ≡ true) where
  pub working_after : Placed k m.working (filled m k i made v.fills) (work_after v (tables_at m k i made))
  unfolding filled_from work_after
  working_after = go v.fills refl
    where
      go : (x : Filling) → v.fills ≡ x → Placed k m.working (filled m k i made v.fills) (work_after v (tables_at m k i made))
      go filling.Stays e = rw (work_after, e) (placed_none k m.working)
      go filling.Copy e =
          let h = sized.copies in
          rw (work_after, e) (placed_copy k m.working slot sized.working k m.copies (omega arith))
      go filling.Table e = rw (work_after, e) (placed_table k m.working slot sized.working made (form e))
      go filling.Message e =
          let h = sized.payloads in
          rw (work_after, e) (placed_copy k m.working slot sized.working i m.payloads (omega arith))

  pub copies_after : Placed k m.copies (kept m (filled m k i made v.fills) k i v.keeps) (copy_after v (tables_at m k i made))
  unfolding kept_from copy_after
  copies_after = go v.keeps refl
    where
      go : (x : Keeping) → v.keeps ≡ x → Placed k m.copies (kept m (filled m k i made v.fills) k i v.keeps) (copy_after v (tables_at m k i made))
      go keeping.Stays e = rw (copy_after, e) (placed_none k m.copies)
      go keeping.Working e =
          let h = working_after.size in
          let w = sized.working in
          rw (copy_after, e, ← working_after.there) (placed_copy k m.copies slot sized.copies k (filled m k i made v.fills) (omega arith))
      go keeping.Message e =
          let h = sized.payloads in
          rw (copy_after, e) (placed_copy k m.copies slot sized.copies i m.payloads (omega arith))
