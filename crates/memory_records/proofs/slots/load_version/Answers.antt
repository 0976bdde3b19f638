-- `slots::load_version` meets its contract: what its callee reads, as words of the region.
use mathlib.Core.Path.{sym, ap, ◌∙◌}
use Prim.Native.Nat.{◌*◌}
use Rattle.memory.specs.Layout.{slot_size, version_at, version_of, version_place, version_words}
use Rattle.memory_regions.proofs.Regions.{slots_row}
use borrow.Author.Rules.{rules}
use Rattle.memory_records.proofs.slots.load_version.Goals as goal

pub returns : goal.returns
unfolding version_at
returns c =
    c.version_fields.ensures ∙ ap version_of (sym (slots_row c.args.words.now version_words (c.args.slot * slot_size) version_place (search rules)))
