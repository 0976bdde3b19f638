-- `slots::load_call` meets its contract: what its callee reads, as words of the region.
use mathlib.Core.Path.{sym, ap, ◌∙◌}
use Prim.Native.Nat.{◌*◌}
use Rattle.memory.specs.Layout.{call_at, call_of, call_place, call_words, slot_size}
use Rattle.memory_regions.proofs.Regions.{slots_row}
use borrow.Author.Rules.{rules}
use Rattle.memory_records.proofs.slots.load_call.Goals as goal

pub returns : goal.returns
unfolding call_at
returns c = c.call_fields.ensures ∙ ap call_of (sym (slots_row c.args.words.now call_words (c.args.slot * slot_size) call_place (search rules)))
