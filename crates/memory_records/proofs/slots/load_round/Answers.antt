-- `slots::load_round` meets its contract: what its callee reads, as words of the region.
use mathlib.Core.Path.{sym, ap, ◌∙◌}
use Prim.Native.Nat.{◌*◌}
use Rattle.memory.specs.Layout.{round_at, round_of, round_place, round_words, slot_size}
use Rattle.memory_regions.proofs.Regions.{slots_row}
use borrow.Author.Rules.{rules}
use Rattle.memory_records.proofs.slots.load_round.Goals as goal

pub returns : goal.returns
unfolding round_at
returns c = c.round_fields.ensures ∙ ap round_of (sym (slots_row c.args.words.now round_words (c.args.slot * slot_size) round_place (search rules)))
