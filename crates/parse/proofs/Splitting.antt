-- A line's words: the first one ends at the first space, and the others are the words of what follows it.
use mathlib.Core.Path.{◌≡◌, refl, sym, ◌∙◌}
use mathlib.Core.List.{List, [], ◌∷◌, ◌++◌, reverse, reverse-cons, append_assoc, append-nil}
use mathlib.Core.Bool.{Bool, true, false}
use mathlib.Core.Option.{none}
use Prim.Native.Nat.{ℕ, suc, ◌≤◌, ◌<◌, ◌+◌, ◌-◌}
use native.Mathlib.Omega.{arith}
use lib.Dec.{eqb, ltb}
use lib.ListN.{length, take, drop, length-drop}
use lib.Seq.{take_all}
use native.Mathlib.Decide.{dec_lt}
use borrow.Author.Tests.{ltb-true, ltb-false, le-leb, lt-leb}
use Rattle.model.specs.Parse.{words_from, words, line_of, parse}
use Rattle.std.specs.Prelude.{Some, None}
use Rattle.std.specs.List.{position_or_len}
use Rattle.std.proofs.lemmas.Option.{cond_some}
use Rattle.parse.specs.Words.{first_space}

-- ---- one byte more: a space or not

unfoldable pub word_end : List ℕ → ℕ
word_end l = position_or_len (λ b. eqb b 32) l

pub no_end : word_end [] ≡ 0
unfolding word_end
no_end = refl

end_here : (b : ℕ) (l : List ℕ) → eqb b 32 ≡ true → word_end (b ∷ l) ≡ 0
unfolding word_end
end_here b l e = rw e

pub end_later : (b : ℕ) (l : List ℕ) → eqb b 32 ≡ false → word_end (b ∷ l) ≡ suc (word_end l)
unfolding word_end
end_later b l e = rw e (omega arith)

cut_here : (w : List ℕ) (b : ℕ) (l : List ℕ) → eqb b 32 ≡ true → words_from w (b ∷ l) ≡ reverse w ∷ words l
unfolding words_from words
cut_here w b l e = rw (words_from, e)

cut_later : (w : List ℕ) (b : ℕ) (l : List ℕ) → eqb b 32 ≡ false → words_from w (b ∷ l) ≡ words_from (b ∷ w) l
unfolding words_from
cut_later w b l e = rw (words_from, e)

-- ---- what the search for a space answers

space_found : (l : List ℕ) {e : ℕ} → Some e ≡ first_space l → (e ≡ word_end l) × (word_end l < length l)
unfolding word_end
space_found l {e} h =
    let p : (ltb (word_end l) (length l) ≡ true) × (word_end l ≡ e) = cond_some _ _ _ (sym h) in
    (sym p.1, ltb-true _ _ p.0)

no_space : (l : List ℕ) → None ≡ first_space l → length l ≤ word_end l
unfolding word_end
no_space l h = go (ltb (word_end l) (length l)) refl
  where
    go : (t : Bool) → ltb (word_end l) (length l) ≡ t → length l ≤ word_end l
    go true e = absurd (cc (rw e at h))
    go false e = ltb-false _ _ e

-- ---- the words themselves

-- `w` is what has been read of the first word
words_from_next : (w l : List ℕ) → word_end l < length l → words_from w l ≡ (reverse w ++ take (word_end l) l) ∷ words (drop (word_end l + 1) l)
words_from_next w [] h = absurd (omega arith)
words_from_next w (b ∷ l) h = go (eqb b 32) refl (words_from_next (b ∷ w) l)
  where
    go : (t : Bool) → eqb b 32 ≡ t → (word_end l < length l → words_from (b ∷ w) l ≡ (reverse (b ∷ w) ++ take (word_end l) l) ∷ words (drop (word_end l + 1) l)) → words_from w (b ∷ l) ≡ (reverse w ++ take (word_end (b ∷ l)) (b ∷ l)) ∷ words (drop (word_end (b ∷ l) + 1) (b ∷ l))
    go true e ih = cut_here w b l e ∙ rw (end_here b l e, append-nil)
    go false e ih =
        let n : word_end (b ∷ l) + 1 ≡ suc (word_end l + 1) = omega (arith, end_later b l e) in
        cut_later w b l e ∙ ih (omega (arith, end_later b l e)) ∙ rw (n, end_later b l e, reverse-cons b w, append_assoc)

words_from_last : (w l : List ℕ) → length l ≤ word_end l → words_from w l ≡ (reverse w ++ l) ∷ []
words_from_last w [] h = unfold words_from in rw append-nil
words_from_last w (b ∷ l) h = go (eqb b 32) refl (words_from_last (b ∷ w) l)
  where
    go : (t : Bool) → eqb b 32 ≡ t → (length l ≤ word_end l → words_from (b ∷ w) l ≡ (reverse (b ∷ w) ++ l) ∷ []) → words_from w (b ∷ l) ≡ (reverse w ++ (b ∷ l)) ∷ []
    go true e ih = absurd (omega (arith, end_here b l e))
    go false e ih = cut_later w b l e ∙ ih (omega (arith, end_later b l e)) ∙ rw (reverse-cons b w, append_assoc)

-- a space ends the first word
pub words_next : (l : List ℕ) → word_end l < length l → words l ≡ take (word_end l) l ∷ words (drop (word_end l + 1) l)
unfolding words
words_next l h = words_from_next [] l h

-- with no space there is one word
pub words_last : (l : List ℕ) → length l ≤ word_end l → words l ≡ l ∷ []
unfolding words
words_last l h = words_from_last [] l h

-- the same, by what the search answers and the parts that are lent on
pub words_cut : (l : List ℕ) {e : ℕ} → Some e ≡ first_space l → take e l ∷ words (take (length l - (e + 1)) (drop (e + 1) l)) ≡ words l
words_cut l {e} h =
    let p = space_found l h in
    let r : word_end l < length l = p.1 in
    rw (p.0, take_all (length l - (word_end l + 1)) (drop (word_end l + 1) l) (rw length-drop (omega arith))) (sym (words_next l r))

pub words_whole : (l : List ℕ) → None ≡ first_space l → l ∷ [] ≡ words l
words_whole l h = sym (words_last l (no_space l h))

-- there is a word in any line, so a line with five words and more to come has too many
pub too_many : (v w a b c : List ℕ) (l : List ℕ) → line_of (v ∷ (w ∷ (a ∷ (b ∷ (c ∷ words l))))) ≡ none
too_many v w a b c l = go (dec_lt (word_end l) (length l))
  where
    go : Dec (word_end l < length l) → line_of (v ∷ (w ∷ (a ∷ (b ∷ (c ∷ words l))))) ≡ none
    go (yes h) = unfold line_of in rw (words_next l h)
    go (no h) = unfold line_of in rw (words_last l (omega arith))

-- ---- lines by their length

pub parse_short : (l : List ℕ) → length l ≤ 120 → parse l ≡ line_of (words l)
unfolding parse
parse_short l h = rw (parse, le-leb (length l) 120 h)

pub parse_long : (l : List ℕ) → 120 < length l → parse l ≡ none
unfolding parse
parse_long l h = rw (parse, lt-leb (length l) 120 h)

pub one_word : (l : List ℕ) → line_of (l ∷ []) ≡ none
unfolding line_of
one_word l = refl
