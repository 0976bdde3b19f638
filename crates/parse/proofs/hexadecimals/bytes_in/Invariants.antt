-- `hexadecimals::bytes_in` meets its contract: byte by byte.
use Rattle.std.proofs.Common.{◌≡◌, ℕ, ◌≤◌, ◌<◌, length, get_or}
use Rattle.parse.specs.Digits.{pair_bytes}
use Rattle.parse.proofs.hexadecimals.bytes_in.Given as goal

abbrev pub invariant-loop-i : goal.invariant-loop-i
invariant-loop-i g l = (length l.bytes ≡ g.row.ROOM) × ((k : ℕ) → k < l.i → get_or l.bytes k 0 ≡ get_or (pair_bytes l.word) k 0) × ((k : ℕ) → l.i ≤ k → get_or l.bytes k 0 ≡ 0)
