-- `vectors::words::bytes` meets its contract: the next byte goes within the buffer or behind it.
use Rattle.std.proofs.Common.{◌≤◌, length}
use Rattle.vectors.proofs.words.bytes.Given as goal

abbrev pub invariant-loop-piece : goal.invariant-loop-piece
invariant-loop-piece l = l.at ≤ length l.out
