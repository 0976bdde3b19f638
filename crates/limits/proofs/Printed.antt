-- What a line prints is at most 192 bytes: eight calls that end together, each with a number and a count of rounds of seven
-- digits. The tally line is at most 49 bytes. A whole run prints at most 192 for each line, and the tally line.
use mathlib.Core.Path.{◌≡◌, refl, ap, subst}
use mathlib.Core.List.{List, [], ◌∷◌}
use mathlib.Core.Bool.{Bool, true, false}
use mathlib.Core.Option.{Option, none, some}
use Prim.Native.Nat.{ℕ, zero, suc, ◌+◌, ◌*◌, ◌^◌, ◌/◌, ◌%◌, ◌≤◌, ◌<◌}
use native.Mathlib.Omega.{arith}
use native.Mathlib.Decide.{dec_lt}
use lib.Dec.{ltb}
use lib.ListN.{length, take, length-append, length-take}
use borrow.Author.Tests.{ltb-false}
use Rattle.model.specs.Measures.{max_buckets, max_value_bytes, max_messages, max_accepted, max_election, max_lines}
use Rattle.model.specs.Calls.{Result, value, listed, done, mismatch, full, notdone, unknown, Answer}
use Rattle.model.specs.Cluster.{Message, Cluster}
use Rattle.model.specs.Lines.{Line, State, initial_state, Tally, refusal, LineResult, work}
use Rattle.model.specs.Text.{bytes}
use Rattle.model.specs.Print.{decimal_into, decimal, hex_pairs, value_text, key_list, keys_text, word_of, data_of, answer_text, answer_texts, outcome_text, tally_text}
use Rattle.model.specs.Parse.{parse}
use Rattle.model.specs.Run.{step, state_after, lines_from, lines_of, printed_from, run}
use Rattle.limits.specs.Lists.{All, nil, cons}
use Rattle.limits.specs.Tally.{Tallied}
use Rattle.limits.specs.Measures.{Limits, KeySized, ValueSized, ResultWithin, AnswerWithin, Ending, AnswersWithin, single, endings}
use Rattle.limits.specs.Stands.{Measured}
use Rattle.limits.specs.Printed.{max_printed, max_tally_bytes}
use Rattle.limits.proofs.Refusals.{ComesOut, refused_by_lem, founded, took, comes_out}
use Rattle.limits.proofs.Counting.{nothing_tallied}
use Rattle.limits.proofs.Always.{room_for_line, line_taken, line_keeps_measures, within_always}

-- ---- numbers and byte strings

digits_into : (d f n : ℕ) (rest : List ℕ) → n < 10 ^ suc d → length (decimal_into f n rest) ≤ suc d + length rest
unfolding decimal_into
digits_into d zero n rest h = omega arith
digits_into zero (suc f) n rest h = go (ltb n 10) refl
  where
    go : (t : Bool) → ltb n 10 ≡ t → length (decimal_into (suc f) n rest) ≤ 1 + length rest
    go true e = rw (decimal_into, e) (omega arith)
    go false e = absurd (omega (arith, ltb-false n 10 e))
digits_into (suc d) (suc f) n rest h = go (ltb n 10) refl (digits_into d f (n / 10) ((48 + n % 10) ∷ rest) (omega arith))
  where
    go : (t : Bool) → ltb n 10 ≡ t → length (decimal_into f (n / 10) ((48 + n % 10) ∷ rest)) ≤ suc d + suc (length rest) →
        length (decimal_into (suc f) n rest) ≤ suc (suc d) + length rest
    go true e ih = rw (decimal_into, e) (omega arith)
    go false e ih = rw (decimal_into, e) (omega arith)

-- a number below 10 ^ (d + 1) has at most d + 1 digits
digits : (d n : ℕ) → n < 10 ^ suc d → length (decimal n) ≤ suc d
unfolding decimal
digits d n h = omega (arith, digits_into d (suc n) n [] h)

hex_length : (l : List ℕ) → length (hex_pairs l) ≡ 2 * length l
unfolding hex_pairs
hex_length [] = omega arith
hex_length (x ∷ l) = omega (arith, hex_length l)

value_length_lem : (v : Option (List ℕ)) → ValueSized v → length (value_text v) ≤ 2 * max_value_bytes
unfolding value_text bytes
value_length_lem none h = omega arith
value_length_lem (some []) h = omega arith
value_length_lem (some (x ∷ l)) h = omega (arith, hex_length (x ∷ l))

-- ---- answers

key_list-length : (l : List (List ℕ)) → All KeySized l → length (key_list l) ≤ 17 * length l
unfolding key_list bytes
key_list-length [] nil = omega arith
key_list-length (k ∷ l) (cons p h) =
    simp length-append (omega (arith, hex_length k, p.1, key_list-length l h))

-- the result's word and its data
result_length : (r : Result) → ResultWithin r → length (word_of r) + length (data_of r) ≤ 72
unfolding word_of data_of keys_text bytes
result_length (value v) h = simp length-append (omega (arith, value_length_lem v h))
result_length (listed []) h = omega arith
result_length (listed (k ∷ l)) h = omega (arith, key_list-length (k ∷ l) h.1, h.0)
result_length done h = omega arith
result_length mismatch h = omega arith
result_length full h = omega arith
result_length notdone h = omega arith
result_length unknown h = omega arith

ending_length : (r : Result) → Ending r → length (word_of r) + length (data_of r) ≤ 7
unfolding word_of data_of bytes
ending_length (value v) h = absurd h
ending_length (listed l) h = absurd h
ending_length done h = absurd h
ending_length mismatch h = absurd h
ending_length full h = absurd h
ending_length notdone h = omega arith
ending_length unknown h = omega arith

-- limits after at most 1,000,000 lines
abbrev Few : Limits → Type 0
Few l = (l.calls ≤ max_accepted) × (l.rounds ≤ 4 * max_accepted)

answer_length : (l : Limits) (a : Answer) → Few l → AnswerWithin l a →
    length (answer_text a) ≤ 17 + (length (word_of a.result) + length (data_of a.result))
unfolding answer_text bytes
answer_length l a h w =
    let call = digits 6 a.call (omega (arith, w.last, h.0)) in
    let rounds = digits 6 a.rounds (omega (arith, w.rounds, h.1)) in
    simp length-append (omega arith)

endings_length : (l : Limits) (out : List Answer) → Few l → All (λ a. AnswerWithin l a × Ending a.result) out →
    length (answer_texts out) ≤ 24 * length out
unfolding answer_texts
endings_length l [] h nil = omega arith
endings_length l (a ∷ out) h (cons w k) =
    simp length-append (omega (arith, answer_length l a h w.0, ending_length a.result w.1, endings_length l out h k))

answers_length : {b : ℕ} {l : Limits} (out : List Answer) → b ≤ max_buckets → Few l → AnswersWithin b l out →
    length (answer_texts out) ≤ max_printed
unfolding answer_texts
answers_length {b} {l} out h k (single {a = a} w) =
    simp length-append (omega (arith, answer_length l a k w, result_length a.result w.result))
answers_length {b} {l} out h k (endings few w) = omega (arith, endings_length l out k w)

-- ---- lines

refusal_length : (number r : ℕ) → number ≤ max_lines → r ≤ 18 → length (outcome_text number (refusal r)) ≤ max_printed
unfolding outcome_text bytes
refusal_length number r h k =
    let line = digits 9 number (omega arith) in
    let code = digits 1 r (omega arith) in
    simp length-append (omega arith)

line_length : (number : ℕ) (s : State) (o : Option Line) (x : LineResult) → number ≤ max_lines → Measured s.cluster s.tally → ComesOut s o x →
    length (outcome_text number x.outcome) ≤ max_printed
unfolding outcome_text answer_texts
line_length number s o x h m (refused_by_lem r low high) = refusal_length number r h high.top
line_length number s o x h m (founded n b i p q e) = omega arith
line_length number s o x h m (took c l i e f room) =
    let k = subst (λ o. Measured o s.tally) e m in
    let w = line_taken max_election c s.tally l k f in
    let few = room_for_line max_election c l f in
    answers_length (work c l).answers k.few_buckets (omega arith, omega arith) w.answers

pub printed_at_most : (ls : List (List ℕ)) (l : List ℕ) (number : ℕ) → number ≤ max_lines →
    length (outcome_text number (step (state_after initial_state ls) l).outcome) ≤ max_printed
printed_at_most ls l number h = line_length number (state_after initial_state ls) _ _ h (within_always max_election ls) (comes_out max_election (state_after initial_state ls) l)

-- ---- the tally line

-- two counts that together come to at most 128,000,000: not both have nine digits
pair_length : (x y : ℕ) → x + y ≤ 2 * (max_messages * max_accepted) → length (decimal x) + length (decimal y) ≤ 17
pair_length x y h = go (dec_lt x 100000000)
  where
    go : Dec (x < 100000000) → length (decimal x) + length (decimal y) ≤ 17
    go (yes p) = omega (arith, digits 7 x p, digits 8 y (omega arith))
    go (no p) = omega (arith, digits 8 x (omega arith), digits 7 y (omega arith))

tally_length : (t : Tally) {messages : List Message} → t.sent ≤ max_messages * max_accepted → t.copied ≤ max_messages * max_accepted → Tallied messages t →
    length (tally_text t) ≤ max_tally_bytes
unfolding tally_text bytes
tally_length t sent copied h =
    let flight : t.count_in_flight ≤ max_messages = omega (arith, h.flight, h.room) in
    let a = digits 7 t.sent (omega arith) in
    let b = digits 7 t.copied (omega arith) in
    let c = pair_length t.delivered t.lost (omega (arith, h.balance)) in
    let d = digits 1 t.count_in_flight (omega arith) in
    simp length-append (omega arith)

measured_tally : (o : Option Cluster) (t : Tally) → Measured o t → length (tally_text t) ≤ max_tally_bytes
measured_tally none t h = tally_length t (omega (arith, ap (λ x. x.sent) h)) (omega (arith, ap (λ x. x.copied) h)) (nothing_tallied t h)
measured_tally (some c) t h = tally_length t (omega (arith, h.sent, h.accepted)) (omega (arith, h.copied, h.accepted)) h.tallied

pub tally_at_most : (ls : List (List ℕ)) → length (tally_text (state_after initial_state ls).tally) ≤ max_tally_bytes
tally_at_most ls = let s = state_after initial_state ls in measured_tally s.cluster s.tally (within_always max_election ls)

-- ---- a whole run

take_at_most : {A : Type 0} (n : ℕ) (l : List A) → length (take n l) ≤ n
take_at_most n l = rw length-take (omega arith)

few_lines : (input : List ℕ) → length (lines_of input) ≤ max_lines
unfolding lines_of
few_lines input = take_at_most max_lines (lines_from [] input)

printed_from-length : (number : ℕ) (s : State) (ls : List (List ℕ)) → number + length ls ≤ max_lines + 1 →
    Measured s.cluster s.tally → length (printed_from number s ls) ≤ max_printed * length ls + max_tally_bytes
unfolding printed_from
printed_from-length number s [] h m = omega (arith, measured_tally s.cluster s.tally m)
printed_from-length number s (l ∷ ls) h m =
    let x = comes_out max_election s l in
    let line = line_length number s (parse l) (step s l) (omega arith) m x in
    let rest = printed_from-length (number + 1) (step s l).state ls (omega arith) (line_keeps_measures max_election s (parse l) (step s l) x m) in
    simp length-append (omega arith)

pub run_at_most : (input : List ℕ) → length (run input) ≤ max_printed * length (lines_of input) + max_tally_bytes
unfolding run
run_at_most input = printed_from-length 1 initial_state (lines_of input) (omega (arith, few_lines input)) refl
