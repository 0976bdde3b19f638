-- `vectors::words::put_pairs` meets its contract: the next byte goes within the buffer or behind it.
use Rattle.std.proofs.Common.{◌≤◌, length}
use Rattle.vectors.proofs.words.put_pairs.Given as goal

abbrev pub invariant-loop-pair : goal.invariant-loop-pair
invariant-loop-pair l = l.end ≤ length l.out
