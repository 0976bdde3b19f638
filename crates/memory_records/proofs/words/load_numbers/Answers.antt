-- `words::load_numbers` meets its contract: what its callee reads, as words of the region.
use mathlib.Core.Path.{sym, ap, ◌∙◌}
use Prim.Native.Nat.{◌*◌}
use Rattle.memory.specs.Layout.{numbers_at, numbers_of, numbers_place, numbers_words, slot_size}
use Rattle.memory_regions.proofs.Regions.{slots_row}
use borrow.Author.Rules.{rules}
use Rattle.memory_records.proofs.words.load_numbers.Goals as goal

pub returns : goal.returns
unfolding numbers_at
returns c =
    c.numbers_fields.ensures ∙ ap numbers_of (sym (slots_row c.args.words.now numbers_words (c.args.slot * slot_size) numbers_place (search rules)))
