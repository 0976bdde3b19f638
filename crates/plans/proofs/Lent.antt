-- The bytes of a content that count, lent.
use Rattle.std.proofs.Common.{◌≡◌, ℕ, ◌*◌, List, take, drop, sym, ap, arith, take-take}
use Rattle.table.specs.Form.{table_of}
use Rattle.blocks.specs.Blocks.{block}
use Rattle.memory.specs.Layout.{content_at}
use Rattle.views.specs.Memory.{table_at}

-- the bytes of content k from its beginning on are its table's
pub content_is : (l : List ℕ) (k n : ℕ) → n ≡ 113 → table_of 4 16 (take n (drop (k * 128) l)) ≡ table_at l k
unfolding table_at content_at block
content_is l k n e = rw e (ap (table_of 4 16) (sym (take-take 113 128 (drop (k * 128) l) (omega arith))))
