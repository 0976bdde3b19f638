-- `sound` meets its contract: the count first, then slot by slot.
use mathlib.Core.Path.{◌∙◌}
use Rattle.checks.proofs.Sounding.{sound_count, sound_by_slots}
use Rattle.checks.proofs.sound.Goals as goal

pub returns-then-table-le-TABLE_ROOM : goal.returns-then-table-le-TABLE_ROOM
returns-then-table-le-TABLE_ROOM c = c.each_sound.ensures ∙ sound_by_slots c.args.table c.if-table-le-TABLE_ROOM.true

pub returns-else-table-le-TABLE_ROOM : goal.returns-else-table-le-TABLE_ROOM
returns-else-table-le-TABLE_ROOM c = sound_count c.args.table c.if-table-le-TABLE_ROOM.false
