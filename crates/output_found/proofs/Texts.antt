-- The text of an answer whose data were found, in the pieces that it is printed in, and its room for any bytes.
use mathlib.Core.Path.{◌≡◌, refl, ap, ◌∙◌}
use mathlib.Core.List.{List, [], ◌∷◌, ◌++◌, append_assoc}
use mathlib.Core.Option.{some}
use Prim.Native.Nat.{ℕ, zero, suc, ◌≤◌, ◌<◌, ◌+◌, ◌*◌, ◌^◌, min}
use native.Mathlib.Omega.{arith}
use native.Mathlib.Numerals.{add-one}
use lib.ListN.{length, take, drop, get_or, length-append, length-take, length-drop}
use lib.Seq.{drop-cons}
use Rattle.model.specs.Text.{bytes}
use Rattle.model.specs.Calls.{value, listed}
use Rattle.model.specs.Print.{decimal, hex_pairs, value_text, key_list, keys_text, data_of, answer_text}
use Rattle.memory_found.specs.Found.{most_items, found_len, items_in, found_in}
use Rattle.print.specs.declared.ResultWord.{ResultWord}
use Rattle.print.specs.declared.ResultWord.TheVariants as O
use Rattle.print.specs.Answers.{result_for, word_for}
use Rattle.print.specs.Room.{answer_room}
use Rattle.print.proofs.Printing.{Next}
use Rattle.print.proofs.Room.{answer_room_lem}
use Rattle.print.proofs.Texts.{word_of_lem, word_none, key_text}
use Rattle.output_found.specs.Answers.{item_of, result_of, answer_of}

-- ---- pieces

abbrev pub head_of : ℕ → ResultWord → ℕ → List ℕ
head_of call o rounds = decimal call ++ ((bytes " " ++ (word_for o ++ bytes " ")) ++ decimal rounds)

pub line_text : (call : ℕ) (o : ResultWord) (rounds : ℕ) (l : List (List ℕ)) → answer_text (answer_of call o rounds l) ≡ head_of call o rounds ++ (data_of (result_of o l) ++ bytes "\n")
unfolding answer_text answer_of result_of
line_text call o rounds l = rw (word_of_lem o (item_of l 0) l) (simp append_assoc)

pub next_item : (l : List (List ℕ)) (i : ℕ) → i < length l → Next key_list l i (bytes " " ++ hex_pairs (item_of l i))
next_item l i h = record { is = ap key_list (rw (add-one i, drop-cons l i [] h)) ∙ key_text (item_of l i) (drop (i + 1) l) }

-- no keys are `-`
pub keys_none : (l : List (List ℕ)) → length l ≡ 0 → keys_text l ≡ bytes " -"
unfolding keys_text
keys_none [] h = refl
keys_none (k ∷ l) h = absurd (omega arith)

pub keys_some : (l : List (List ℕ)) → (length l ≡ 0 → ⊥) → keys_text l ≡ key_list l
unfolding keys_text
keys_some [] h = absurd (h refl)
keys_some (k ∷ l) h = refl

-- ---- room

length_pairs : (l : List ℕ) → length (hex_pairs l) ≡ 2 * length l
unfolding hex_pairs
length_pairs [] = refl
length_pairs (b ∷ l) = omega (arith, length_pairs l)

value_room : (k : ℕ) (l : List ℕ) → 1 ≤ k → length l ≤ k → length (value_text (some l)) ≤ 2 * k
unfolding value_text bytes
value_room k [] h g = omega arith
value_room k (b ∷ l) h g = omega (arith, length_pairs (b ∷ l))

-- the bytes of n items are no more than those that they are read from
items_room : (n : ℕ) (b : List ℕ) → length (key_list (items_in n b)) ≤ n + 2 * length b
unfolding items_in key_list bytes
items_room zero b = omega arith
items_room (suc n) b =
    let x = take (get_or b 0 0) (drop 1 b) in
    let r = drop (get_or b 0 0) (drop 1 b) in
    simp length-append (omega (arith, items_room n r, length_pairs x, length-take (get_or b 0 0) (drop 1 b), length-drop (get_or b 0 0) (drop 1 b), length-drop 1 b))

first_room : (n : ℕ) (b : List ℕ) → length (item_of (items_in n b) 0) ≤ length b
unfolding items_in
first_room zero b = omega arith
first_room (suc n) b = omega (arith, length-take (get_or b 0 0) (drop 1 b), length-drop 1 b)

keys_room : (l : List (List ℕ)) (k : ℕ) → 2 ≤ k → length (key_list l) ≤ k → length (keys_text l) ≤ k
unfolding keys_text bytes
keys_room [] k h g = omega arith
keys_room (x ∷ l) k h g = g

data_room : (o : ResultWord) (v : List ℕ) (l : List (List ℕ)) → length v ≤ 36 → length (keys_text l) ≤ 76 → length (data_of (result_for o v l)) ≤ 76
unfolding data_of result_for value_text bytes
data_room O.Value v l h g = simp length-append (omega (arith, value_room 36 v (omega arith) h))
data_room O.Keys v l h g = g
data_room O.Done v l h g = omega arith
data_room O.Mismatch v l h g = omega arith
data_room O.Full v l h g = omega arith
data_room O.NotDone v l h g = omega arith
data_room O.Unknown v l h g = omega arith
data_room O.Absent v l h g = omega arith

found_room : (o : ResultWord) (b : List ℕ) → length b ≡ found_len → length (data_of (result_of o (found_in b))) ≤ 76
unfolding result_of found_in
found_room o b h =
    let n = min most_items (get_or b 0 0) in
    let d = length-drop 1 b in
    let few : length (key_list (items_in n (drop 1 b))) ≤ 76 = omega (arith, items_room n (drop 1 b), d) in
    data_room o (item_of (items_in n (drop 1 b)) 0) (items_in n (drop 1 b)) (omega (arith, first_room n (drop 1 b), d)) (keys_room (items_in n (drop 1 b)) 76 (omega arith) few)

pub line_room_lem : (call : ℕ) (o : ResultWord) (rounds : ℕ) (b : List ℕ) → call < 2 ^ 32 → rounds < 2 ^ 32 → length b ≡ found_len → length (answer_text (answer_of call o rounds (found_in b))) ≤ answer_room
unfolding answer_of
line_room_lem call o rounds b h g k =
    omega (arith, answer_room_lem 10 10 (answer_of call o rounds (found_in b)) (omega arith) (omega arith) (omega arith) (omega arith), found_room o b k)

-- ---- the data of each word

pub data_value : (o : ResultWord) (l : List (List ℕ)) → o ≡ O.Value → data_of (result_of o l) ≡ bytes " " ++ value_text (some (item_of l 0))
unfolding result_of result_for data_of
data_value o l e = rw e

pub data_absent : (o : ResultWord) (l : List (List ℕ)) → o ≡ O.Absent → data_of (result_of o l) ≡ bytes " -"
unfolding result_of result_for data_of value_text bytes
data_absent o l e = rw e

pub data_keys : (o : ResultWord) (l : List (List ℕ)) → o ≡ O.Keys → data_of (result_of o l) ≡ keys_text l
unfolding result_of result_for data_of
data_keys o l e = rw e

pub data_none : (o : ResultWord) (l : List (List ℕ)) → (o ≡ O.Value → ⊥) → (o ≡ O.Keys → ⊥) → (o ≡ O.Absent → ⊥) → data_of (result_of o l) ≡ []
unfolding result_of
data_none o l = word_none o (item_of l 0) l

-- ---- the same answer as with its data by value: where the word asks for them, the first item is the value, and the items are the keys

pub same_result : (o : ResultWord) (v : List ℕ) (l found : List (List ℕ)) → (o ≡ O.Value → item_of found 0 ≡ v) → (o ≡ O.Keys → found ≡ l) → result_of o found ≡ result_for o v l
unfolding result_of result_for
same_result O.Value v l found h k = ap (λ x. value (some x)) (h refl)
same_result O.Keys v l found h k = ap listed (k refl)
same_result O.Done v l found h k = refl
same_result O.Mismatch v l found h k = refl
same_result O.Full v l found h k = refl
same_result O.NotDone v l found h k = refl
same_result O.Unknown v l found h k = refl
same_result O.Absent v l found h k = refl
