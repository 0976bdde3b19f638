-- How long the texts of lines are at most, by the number of figures in their numbers.
use Prim.Native.Nat.{ℕ, ◌≤◌, ◌<◌, ◌+◌, ◌*◌, ◌^◌}
use native.Mathlib.Omega.{arith}
use lib.ListN.{length, length-append}
use Rattle.model.specs.Text.{bytes}
use Rattle.model.specs.Calls.{Result, value, listed, done, mismatch, full, notdone, unknown, Answer}
use Rattle.model.specs.Lines.{Tally, refusal}
use Rattle.model.specs.Print.{word_of, data_of, answer_text, outcome_text, tally_text}
use Rattle.print.proofs.Counting.{length_decimal}

pub refusal_room : (k m l r : ℕ) → 1 ≤ k → 1 ≤ m → l < 10 ^ k → r < 10 ^ m → length (outcome_text l (refusal r)) ≤ 15 + k + m
unfolding outcome_text bytes
refusal_room k m l r hk hm h g = simp length-append (omega (arith, length_decimal k l hk h, length_decimal m r hm g))

pub tally_room_lem : (k : ℕ) (t : Tally) → 1 ≤ k → t.sent < 10 ^ k → t.copied < 10 ^ k → t.delivered < 10 ^ k → t.lost < 10 ^ k → t.count_in_flight < 10 ^ k → length (tally_text t) ≤ 14 + 5 * k
unfolding tally_text bytes
tally_room_lem k t h a b c d e =
    simp length-append (omega (arith, length_decimal k t.sent h a, length_decimal k t.copied h b, length_decimal k t.delivered h c, length_decimal k t.lost h d, length_decimal k t.count_in_flight h e))

word_room : (r : Result) → length (word_of r) ≤ 8
unfolding word_of bytes
word_room (value v) = omega arith
word_room (listed l) = omega arith
word_room done = omega arith
word_room mismatch = omega arith
word_room full = omega arith
word_room notdone = omega arith
word_room unknown = omega arith

pub answer_room_lem : (k m : ℕ) (a : Answer) → 1 ≤ k → 1 ≤ m → a.call < 10 ^ k → a.rounds < 10 ^ m → length (answer_text a) ≤ 11 + k + m + length (data_of a.result)
unfolding answer_text bytes
answer_room_lem k m a hk hm h g = simp length-append (omega (arith, word_room a.result, length_decimal k a.call hk h, length_decimal m a.rounds hm g))
