-- `keys_room` meets its contract: key by key.
use Rattle.bucket_c.proofs.Exporting.{KeysPassing}
use Rattle.bucket_c.proofs.keys_room.Given as goal

abbrev pub invariant-loop-key : goal.invariant-loop-key
invariant-loop-key l = KeysPassing l.keys l.room l.key-index
