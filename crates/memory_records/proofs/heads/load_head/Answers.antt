-- `heads::load_head` meets its contract: what its callee reads, as words of the region.
use mathlib.Core.Path.{sym, ap, ◌∙◌}
use Prim.Native.Nat.{◌*◌}
use Rattle.memory.specs.Layout.{head_at, head_of, head_size, head_words}
use Rattle.memory_regions.proofs.Regions.{heads_row}
use borrow.Author.Rules.{rules}
use Rattle.memory_records.proofs.heads.load_head.Goals as goal

pub returns : goal.returns
unfolding head_at
returns c = c.head_fields.ensures ∙ ap head_of (sym (heads_row c.args.words.now head_words (c.args.server * head_size) 0 (search rules)))
