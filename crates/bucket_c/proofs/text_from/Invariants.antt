-- `text_from` meets its contract: byte by byte.
use Rattle.std.proofs.Common.{◌≡◌, ℕ, ◌<◌, ◌+◌, length, get_or}
use Rattle.bucket_c.proofs.text_from.Given as goal

abbrev pub invariant-loop-i : goal.invariant-loop-i
invariant-loop-i g l =
    record { long : length l.byte-items ≡ g.row.ROOM; same : (k : ℕ) → k < l.i → get_or l.byte-items k 0 ≡ get_or l.bytes (l.at + k) 0 }
