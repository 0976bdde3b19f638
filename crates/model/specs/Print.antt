-- What is printed (RULES, Output): answers, refusals and the tally line, as bytes.
use Rattle.std.specs.Prelude.{List, [], ◌∷◌, ◌++◌, true, false, ℕ, zero, suc, ◌+◌, ◌/◌, ◌%◌, ltb}
use Rattle.std.proofs.Math.Option.{Option, none, some}
use Rattle.model.specs.Calls.{Result, value, listed, done, mismatch, full, notdone, unknown, Answer}
use Rattle.model.specs.Lines.{Tally, Outcome, refusal, printed}
use Rattle.model.specs.Text.{bytes}

-- a number in decimal; n + 1 steps are enough for the digits of n
unfoldable pub decimal_into : ℕ → ℕ → List ℕ → List ℕ
decimal_into zero n rest = rest
decimal_into (suc f) n rest =
    elim (ltb n 10) [ true ↦ (48 + n) ∷ rest | false ↦ decimal_into f (n / 10) ((48 + n % 10) ∷ rest) ]

unfoldable pub decimal : ℕ → List ℕ
decimal n = decimal_into (suc n) n []

unfoldable pub hex_digit : ℕ → ℕ
hex_digit d = elim (ltb d 10) [ true ↦ 48 + d | false ↦ 87 + d ]

unfoldable pub hex_pairs : List ℕ → List ℕ
hex_pairs [] = []
hex_pairs (b ∷ l) = hex_digit (b / 16) ∷ (hex_digit (b % 16) ∷ hex_pairs l)

-- a value: `-` where the key is absent, `.` for a value of no bytes
unfoldable pub value_text : Option (List ℕ) → List ℕ
value_text none = bytes "-"
value_text (some []) = bytes "."
value_text (some (b ∷ l)) = hex_pairs (b ∷ l)

-- keys, each with a space before it
unfoldable pub key_list : List (List ℕ) → List ℕ
key_list [] = []
key_list (k ∷ l) = bytes " " ++ (hex_pairs k ++ key_list l)

unfoldable pub keys_text : List (List ℕ) → List ℕ
keys_text [] = bytes " -"
keys_text (k ∷ l) = key_list (k ∷ l)

-- the result's word, and what stands after the rounds
unfoldable pub word_of : Result → List ℕ
word_of (value v) = bytes "value"
word_of (listed l) = bytes "keys"
word_of done = bytes "done"
word_of mismatch = bytes "mismatch"
word_of full = bytes "full"
word_of notdone = bytes "notdone"
word_of unknown = bytes "unknown"

unfoldable pub data_of : Result → List ℕ
data_of (value v) = bytes " " ++ value_text v
data_of (listed l) = keys_text l
data_of done = []
data_of mismatch = []
data_of full = []
data_of notdone = []
data_of unknown = []

-- the call's number, result, rounds, data
unfoldable pub answer_text : Answer → List ℕ
answer_text a =
    decimal a.call ++ (bytes " " ++ (word_of a.result ++ (bytes " " ++ (decimal a.rounds ++ (data_of a.result ++ bytes "\n")))))

unfoldable pub answer_texts : List Answer → List ℕ
answer_texts [] = []
answer_texts (a ∷ l) = answer_text a ++ answer_texts l

-- what line L prints
unfoldable pub outcome_text : ℕ → Outcome → List ℕ
outcome_text number (refusal r) = bytes "line " ++ (decimal number ++ (bytes " refused " ++ (decimal r ++ bytes "\n")))
outcome_text number (printed l) = answer_texts l

unfoldable pub tally_text : Tally → List ℕ
tally_text t =
    bytes "messages " ++
    (decimal t.sent ++
    (bytes " " ++
    (decimal t.copied ++
    (bytes " " ++
    (decimal t.delivered ++
    (bytes " " ++ (decimal t.lost ++ (bytes " " ++ (decimal t.count_in_flight ++ bytes "\n")))))))))
