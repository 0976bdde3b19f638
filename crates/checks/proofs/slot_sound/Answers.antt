-- `slot_sound` meets its contract: the key first, then the value.
use Rattle.checks.proofs.Sounding.{long_key, short_key}
use Rattle.checks.proofs.slot_sound.Goals as goal

pub returns-then-slot-le-KEY_ROOM : goal.returns-then-slot-le-KEY_ROOM
returns-then-slot-le-KEY_ROOM c = short_key c.args.slot c.if-slot-le-KEY_ROOM.true

pub returns-else-slot-le-KEY_ROOM : goal.returns-else-slot-le-KEY_ROOM
returns-else-slot-le-KEY_ROOM c = long_key c.args.slot c.if-slot-le-KEY_ROOM.false
