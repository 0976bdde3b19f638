-- `digits::digits` meets its contract: digit by digit.
use Rattle.parse.proofs.Numbers.{Reading}
use Rattle.parse.proofs.digits.digits.Given as goal

abbrev pub invariant-loop-byte : goal.invariant-loop-byte
invariant-loop-byte l = Reading l.word l.so_far l.byte-index
