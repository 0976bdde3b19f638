-- `write` meets its contract: kind by kind.
use native.Mathlib.Omega.{arith}
use Rattle.datagram.proofs.Answering.{carries_either}
use Rattle.fields.proofs.Rules.{carries_none}
use Rattle.datagram.proofs.write.Goals as goal

pub write_full-requires : goal.write_full-requires
write_full-requires c = carries_either c.args.datagram.kind c.in-4.is

pub write_plain-requires : goal.write_plain-requires
write_plain-requires c = carries_none c.args.datagram.kind (grind arith) (grind arith)
