-- The texts of lines, in the pieces that they are printed in.
use mathlib.Core.Path.{◌≡◌, refl, sym, ap, ◌∙◌}
use mathlib.Core.List.{List, [], ◌∷◌, ◌++◌, map, append_assoc}
use mathlib.Core.Option.{some}
use Prim.Native.Nat.{ℕ, ◌<◌, ◌+◌, min}
use native.Mathlib.Omega.{arith}
use native.Mathlib.Numerals.{add-one}
use mathlib.Core.Bool.{true, false}
use lib.Dec.{eqb}
use lib.ListN.{length, take, drop, get_or, length-map, get_or-map}
use lib.Seq.{drop-cons}
use borrow.Author.Tests.{eqb-true}
use Rattle.entries.specs.Decoded.{Key, key_bytes, value_bytes}
use Rattle.entries.proofs.Lists.{take_min}
use Rattle.model.specs.Text.{bytes}
use Rattle.model.specs.Lines.{Tally, refusal}
use Rattle.model.specs.Print.{decimal, hex_pairs, value_text, key_list, keys_text, word_of, data_of, answer_text, outcome_text, tally_text}
use Rattle.std.proofs.lemmas.List.{take-map}
use Rattle.print.specs.declared.ResultWord.{ResultWord}
use Rattle.print.specs.declared.ResultWord.TheVariants as O
use Rattle.print.specs.declared.KeyList.{KeyList}
use Rattle.print.specs.declared.AnswerLine.{AnswerLine}
use Rattle.print.specs.Answers.{keys_in, result_for, answer_in, word_for}
use Rattle.print.proofs.Printing.{Next}

-- ---- refusals and the tally

pub refusal_text : (l r : ℕ) → outcome_text l (refusal r) ≡ (bytes "line " ++ decimal l) ++ ((bytes " refused " ++ decimal r) ++ bytes "\n")
unfolding outcome_text
refusal_text l r = simp append_assoc

pub tally_text_lem : (t : Tally) → tally_text t ≡ (bytes "messages " ++ decimal t.sent) ++ (((bytes " " ++ decimal t.copied) ++ (bytes " " ++ decimal t.delivered)) ++ ((bytes " " ++ decimal t.lost) ++ ((bytes " " ++ decimal t.count_in_flight) ++ bytes "\n")))
unfolding tally_text
tally_text_lem t = simp append_assoc

-- ---- answers

pub word_of_lem : (o : ResultWord) (v : List ℕ) (l : List (List ℕ)) → word_of (result_for o v l) ≡ word_for o
unfolding word_for result_for word_of
word_of_lem O.Value v l = refl
word_of_lem O.Keys v l = refl
word_of_lem O.Done v l = refl
word_of_lem O.Mismatch v l = refl
word_of_lem O.Full v l = refl
word_of_lem O.NotDone v l = refl
word_of_lem O.Unknown v l = refl
word_of_lem O.Absent v l = refl

pub answer_text_lem : (a : AnswerLine) → answer_text (answer_in a) ≡ (decimal a.call ++ ((bytes " " ++ (word_for a.word ++ bytes " ")) ++ decimal a.rounds)) ++ (data_of (answer_in a).result ++ bytes "\n")
unfolding answer_text answer_in
answer_text_lem a = rw (word_of_lem a.word (value_bytes a.value) (keys_in a.keys)) (simp append_assoc)

-- ---- keys

abbrev blank : Key
blank = record { bytes = []; len = 0 }

pub key_text : (k : List ℕ) (l : List (List ℕ)) → key_list (k ∷ l) ≡ (bytes " " ++ hex_pairs k) ++ key_list l
unfolding key_list
key_text k l = simp append_assoc

pub next_key : (l : List Key) (i : ℕ) → i < length l → Next key_list (map key_bytes l) i (bytes " " ++ hex_pairs (key_bytes (get_or l i blank)))
next_key l i h = record { is = ap key_list first ∙ key_text (key_bytes (get_or l i blank)) (drop (i + 1) (map key_bytes l)) }
  where
    first : drop i (map key_bytes l) ≡ key_bytes (get_or l i blank) ∷ drop (i + 1) (map key_bytes l)
    first = rw (add-one i, drop-cons (map key_bytes l) i (key_bytes blank) (rw length-map h), get_or-map key_bytes l i blank)

pub keys_end : key_list [] ≡ []
unfolding key_list
keys_end = refl

-- no keys are `-`
pub keys_none : (l : List Key) → eqb (length l) 0 ≡ true → keys_text (map key_bytes l) ≡ bytes " -"
unfolding keys_text
keys_none [] h = refl
keys_none (k ∷ l) h = absurd (omega (arith, eqb-true _ _ h))

pub keys_some : (l : List Key) → eqb (length l) 0 ≡ false → keys_text (map key_bytes l) ≡ key_list (map key_bytes l)
unfolding keys_text
keys_some [] h = absurd (cc)
keys_some (k ∷ l) h = refl

-- as many of the keys as a list has room for are the list
pub used_keys : (l : KeyList) (n : ℕ) → length l.keys ≡ 4 → n ≡ min l.count 4 → map key_bytes (take n l.keys) ≡ keys_in l
unfolding keys_in
used_keys l n h e =
    let m : n ≡ min l.count (length (map key_bytes l.keys)) = rw (length-map, h) e in
    sym (take-map key_bytes n l.keys) ∙ rw m (take_min l.count (map key_bytes l.keys))

-- ---- the data of an answer

pub word_none : (o : ResultWord) (v : List ℕ) (l : List (List ℕ)) → (o ≡ O.Value → ⊥) → (o ≡ O.Keys → ⊥) → (o ≡ O.Absent → ⊥) → data_of (result_for o v l) ≡ []
unfolding result_for data_of
word_none O.Value v l h k m = absurd (h refl)
word_none O.Keys v l h k m = absurd (k refl)
word_none O.Done v l h k m = refl
word_none O.Mismatch v l h k m = refl
word_none O.Full v l h k m = refl
word_none O.NotDone v l h k m = refl
word_none O.Unknown v l h k m = refl
word_none O.Absent v l h k m = absurd (m refl)

pub data_value : (a : AnswerLine) → a.word ≡ O.Value → data_of (answer_in a).result ≡ bytes " " ++ value_text (some (value_bytes a.value))
unfolding answer_in result_for data_of
data_value a e = rw e

pub data_absent : (a : AnswerLine) → a.word ≡ O.Absent → data_of (answer_in a).result ≡ bytes " -"
unfolding answer_in result_for data_of value_text bytes
data_absent a e = rw e

pub data_keys : (a : AnswerLine) → a.word ≡ O.Keys → data_of (answer_in a).result ≡ keys_text (keys_in a.keys)
unfolding answer_in result_for data_of
data_keys a e = rw e

pub data_none : (a : AnswerLine) → (a.word ≡ O.Value → ⊥) → (a.word ≡ O.Keys → ⊥) → (a.word ≡ O.Absent → ⊥) → data_of (answer_in a).result ≡ []
unfolding answer_in
data_none a h k m = word_none a.word (value_bytes a.value) (keys_in a.keys) h k m
