-- `memory_messages::load_header` meets its contract: what its callee reads, as words of the region.
use mathlib.Core.Path.{sym, ap, ◌∙◌}
use Prim.Native.Nat.{◌*◌}
use Rattle.memory.specs.Layout.{header_at, message_of, message_size}
use Rattle.memory_regions.proofs.Regions.{queue_row}
use borrow.Author.Rules.{rules}
use Rattle.memory_messages.proofs.load_header.Goals as goal

pub returns : goal.returns
unfolding header_at
returns c = c.message_fields.ensures ∙ ap message_of (sym (queue_row c.args.words.now message_size (c.args.place * message_size) 0 (search rules)))
