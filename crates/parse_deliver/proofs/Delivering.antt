-- A line `deliver I` that is read in one pass is what the general reader reads.
use mathlib.Core.Path.{◌≡◌, refl, sym, ap, subst, ◌∙◌}
use mathlib.Core.List.{List, [], ◌∷◌, ◌++◌}
use mathlib.Core.Bool.{Bool, true, false}
use mathlib.Core.Option.{Option, none, some}
use Prim.Native.Nat.{ℕ, suc, ◌≤◌, ◌<◌, ◌+◌, ◌-◌, ◌*◌, ◌^◌}
use native.Mathlib.Omega.{arith}
use native.Mathlib.Numerals.{add-one}
use native.Mathlib.Nat.{pow-suc, pow-le-pow_right}
use native.Mathlib.Decide.{dec_lt}
use lib.Dec.{eqb, ltb}
use Rattle.std.specs.Prelude.{Option as Maybe, Some, None, position, IfSome, MatchOption}
use Rattle.std.specs.Borrow.{Bor}
use Rattle.std.specs.Cmp.Lexicographic.{pointwise}
use Rattle.std.proofs.lemmas.Slice.Eq.{strip_prefix_is}
use Rattle.std.proofs.lemmas.Bool.Decides.{Decides-eqb}
use Rattle.std.specs.List.{position_or_len}
use Rattle.std.proofs.lemmas.Option.{cond_some}
use lib.ListN.{length, take, drop, get_or, length-append, length-drop}
use lib.Seq.{take_all, take-add, take-suc, drop-drop, get_or-take, get_or-drop, length-take-le}
use borrow.Author.Tests.{ne_eqb, eqb-true, ltb-false, lt-ltb, le-ltb}
use Rattle.entries.specs.Entries.{order}
use Rattle.table.specs.Form.{same_bytes}
use Rattle.model.specs.Text.{bytes}
use Rattle.model.specs.Lines.{deliver}
use Rattle.model.specs.Parse.{words_from, words, digit, decimal_from, number, made, line_of1, line_of, parse}
use Rattle.input.specs.Reading.{NoFeed}
use Rattle.input.proofs.Parts.{no_feed_append}
use Rattle.parse.specs.Digits.{optional}
use Rattle.parse.proofs.Numbers.{was_some, number_digits, number_read as digits_number}
use Rattle.parse.proofs.Splitting.{word_end, no_end, end_later, words_last, parse_short}
use Rattle.parse_deliver.specs.declared.Figures.{Figures}
use Rattle.parse_deliver.specs.Deliver.{between, Begun, MayFollow, NumberRead, NumberAt, DeliverAt, DeliverRead}

no_number : {A : Type 0} {n : ℕ} {o : Option ℕ} → o ≡ none → o ≡ some n → A
no_number {n = n} e f =
    let z : ◌≡◌ {A = Option ℕ} none (some n) = sym e ∙ f in
    let w : ◌≡◌ {A = ℕ} 0 1 = cc in
    absurd (omega arith)

-- ---- digits: none of them is a space or a line feed

abbrev AllDigits : List ℕ → Type 0
AllDigits [] = Unit {0}
AllDigits (b ∷ l) = (48 ≤ b) × AllDigits l

digit_high : (b d : ℕ) → digit b ≡ some d → 48 ≤ b
digit_high b d e = go (dec_lt b 48)
  where
    go : Dec (b < 48) → 48 ≤ b
    go (yes h) = absurd (unfold digit in cc (lt-ltb b 48 h))
    go (no h) = omega arith

decimal_next : (n b d : ℕ) (l : List ℕ) → digit b ≡ some d → decimal_from n (b ∷ l) ≡ decimal_from (n * 10 + d) l
unfolding decimal_from
decimal_next n b d l e = rw (decimal_from, e)

decimal_none : (n b : ℕ) (l : List ℕ) → digit b ≡ none → decimal_from n (b ∷ l) ≡ none
unfolding decimal_from
decimal_none n b l e = rw (decimal_from, e)

all_digits : (n m : ℕ) (l : List ℕ) → decimal_from n l ≡ some m → AllDigits l
all_digits n m [] e = tt
all_digits n m (b ∷ l) e = go (digit b) refl (λ k. all_digits k m l)
  where
    go : (o : Option ℕ) → digit b ≡ o → ((k : ℕ) → decimal_from k l ≡ some m → AllDigits l) → AllDigits (b ∷ l)
    go none f ih = no_number (decimal_none n b l f) e
    go (some d) f ih = (digit_high b d f, ih (n * 10 + d) (sym (decimal_next n b d l f) ∙ e))

no_space : (l : List ℕ) → AllDigits l → word_end l ≡ length l
no_space [] a = no_end
no_space (b ∷ l) a = end_later b l (ne_eqb b 32 (λ z. omega (arith, a.0))) ∙ ap suc (no_space l a.1)

no_feed : (l : List ℕ) → AllDigits l → NoFeed l
no_feed [] a = tt
no_feed (b ∷ l) a = (ne_eqb b 10 (λ z. omega (arith, a.0)), no_feed l a.1)

-- ---- the line of `deliver`, a space and a number

words_deliver : (l : List ℕ) → words (bytes "deliver " ++ l) ≡ bytes "deliver" ∷ words l
unfolding words words_from bytes
words_deliver l = refl

one_number : (l : List ℕ) → line_of (bytes "deliver" ∷ (l ∷ [])) ≡ made deliver (number l)
unfolding line_of line_of1 bytes same_bytes order
one_number l = refl

word_plain : NoFeed (bytes "deliver ")
unfolding bytes
word_plain = (refl, (refl, (refl, (refl, (refl, (refl, (refl, (refl, tt))))))))

word_length : length (bytes "deliver ") ≡ 8
unfolding bytes
word_length = refl

deliver_reads : (l : List ℕ) (n : ℕ) → number l ≡ some n → parse (bytes "deliver " ++ l) ≡ some (deliver n)
unfolding made
deliver_reads l n e =
    let d : (length l ≤ 9) × (decimal_from 0 l ≡ some n) = number_digits l e in
    let s : length (bytes "deliver " ++ l) ≤ 120 = omega (arith, length-append (bytes "deliver ") l, word_length) in
    let w : words l ≡ l ∷ [] = words_last l (omega (arith, no_space l (all_digits 0 n l d.1))) in
    parse_short (bytes "deliver " ++ l) s ∙ ap line_of (words_deliver l ∙ ap (λ (k : List (List ℕ)). bytes "deliver" ∷ k) w) ∙ one_number l ∙ rw e

-- ---- up to the first line feed

unfoldable pub first_feed : List ℕ → ℕ
first_feed l = position_or_len (λ b. eqb b 10) l

first_here : (b : ℕ) (l : List ℕ) → eqb b 10 ≡ true → first_feed (b ∷ l) ≡ 0
unfolding first_feed
first_here b l e = rw e

first_later : (b : ℕ) (l : List ℕ) → eqb b 10 ≡ false → first_feed (b ∷ l) ≡ suc (first_feed l)
unfolding first_feed
first_later b l e = rw e (omega arith)

pub none_before : (l : List ℕ) → NoFeed (take (first_feed l) l)
none_before [] = unfold first_feed in tt
none_before (b ∷ l) = go (eqb b 10) refl (none_before l)
  where
    go : (t : Bool) → eqb b 10 ≡ t → NoFeed (take (first_feed l) l) → NoFeed (take (first_feed (b ∷ l)) (b ∷ l))
    go true e h = rw (first_here b l e) tt
    go false e h = rw (first_later b l e) (e, h)

pub there : (l : List ℕ) → first_feed l < length l → get_or l (first_feed l) 0 ≡ 10
there [] h = absurd (omega arith)
there (b ∷ l) h = go (eqb b 10) refl (there l)
  where
    go : (t : Bool) → eqb b 10 ≡ t → (first_feed l < length l → get_or l (first_feed l) 0 ≡ 10) → get_or (b ∷ l) (first_feed (b ∷ l)) 0 ≡ 10
    go true e ih = rw (first_here b l e) (eqb-true b 10 e)
    go false e ih = rw (first_later b l e) (ih (omega (arith, first_later b l e)))

pub feed_place : (l : List ℕ) {e : ℕ} → Some e ≡ position (λ b. eqb b 10) l → first_feed l ≡ e
unfolding first_feed
feed_place l h = (cond_some _ _ _ (sym h)).1

pub no_feed_there : (l : List ℕ) → None ≡ position (λ b. eqb b 10) l → NoFeed l
unfolding first_feed
no_feed_there l h = go (ltb (first_feed l) (length l)) refl
  where
    go : (t : Bool) → ltb (first_feed l) (length l) ≡ t → NoFeed l
    go true e = absurd (cc (rw e at h))
    go false e = rw (take_all (first_feed l) l (ltb-false _ _ e)) at (none_before l)

-- ---- where it lies in the input

-- the bytes up to `to`: the first word and its space, then the number
parts : (input : List ℕ) (from to : ℕ) → Begun input from → from + 8 ≤ to → between input from to ≡ bytes "deliver " ++ between input (from + 8) to
parts input from to b h =
    let e : 8 + (to - (from + 8)) ≡ to - from = omega arith in
    ap (λ (n : ℕ). take n (drop from input)) (sym e)
    ∙ take-add 8 (to - (from + 8)) (drop from input)
    ∙ rw (b.word, drop-drop 8 from input)

pub deliver_at : (input : List ℕ) (from n to : ℕ) → Begun input from → NumberAt input (from + 8) n to → DeliverAt input from n to
deliver_at input from n to b k =
    let l = between input (from + 8) to in
    let e = parts input from to b k.onward in
    record {
      onward = omega (arith, k.onward);
      within = k.within;
      plain = subst NoFeed (sym e) (no_feed_append (bytes "deliver ") l word_plain (no_feed l (all_digits 0 n l k.digits)));
      feed = k.feed;
      reads = ap parse e ∙ deliver_reads l n k.reads;
    }

-- what follows the word that was compared
pub stripped : (s p : List ℕ) (r : Maybe (Bor (List ℕ))) → MatchOption r (pointwise eqb (take (length p) s) p ≡ false) (λ x. (pointwise eqb (take (length p) s) p ≡ true) × (x.now ≡ drop (length p) s) × (length x.now + length p ≡ length s)) → IfSome r (λ x. s ≡ p ++ x.now)
stripped s p None h = tt
stripped s p (Some x) h = strip_prefix_is Decides-eqb s p (Some x) h

word_first : (l : List ℕ) → take 8 (bytes "deliver " ++ l) ≡ bytes "deliver "
unfolding bytes
word_first l = refl

word_past : (l : List ℕ) → drop 8 (bytes "deliver " ++ l) ≡ l
unfolding bytes
word_past l = refl

-- ---- digits one after the other: n is the number of those before i, at most nine, and no needless zero is the first

pub record Figuring (l : List ℕ) (n i : ℕ) : Type 0 where
  pub inside : i ≤ length l
  pub size : n < 10 ^ i
  pub short : i ≤ 9
  pub means : decimal_from 0 (take i l) ≡ some n
  pub alone : i ≡ 1 → n ≡ get_or l 0 0 - 48
  pub no_zero : 1 < i → get_or l 0 0 ≡ 48 → ⊥

pub figuring_starts : (l : List ℕ) → Figuring l 0 0
figuring_starts l = record { inside = omega arith; size = omega arith; short = omega arith; means = unfold decimal_from in refl; alone = λ e. omega arith; no_zero = λ h e. omega arith }

decimal_last : (n m d : ℕ) → decimal_from n [] ≡ some m → decimal_from (n * 10 + d) [] ≡ some (m * 10 + d)
unfolding decimal_from
decimal_last n m d e =
    let j : n ≡ m = cc in
    rw j

decimal_append : (n m b d : ℕ) (l : List ℕ) → decimal_from n l ≡ some m → digit b ≡ some d → decimal_from n (l ++ (b ∷ [])) ≡ some (m * 10 + d)
decimal_append n m b d [] e f = decimal_next n b d [] f ∙ decimal_last n m d e
decimal_append n m b d (c ∷ l) e f = go (digit c) refl (λ k g. decimal_append k m b d l g f)
  where
    go : (o : Option ℕ) → digit c ≡ o → ((k : ℕ) → decimal_from k l ≡ some m → decimal_from k (l ++ (b ∷ [])) ≡ some (m * 10 + d)) → decimal_from n ((c ∷ l) ++ (b ∷ [])) ≡ some (m * 10 + d)
    go none g ih = no_number (decimal_none n c l g) e
    go (some x) g ih = decimal_next n c x (l ++ (b ∷ [])) g ∙ ih (n * 10 + x) (sym (decimal_next n c x l g) ∙ e)

digit_of : (b : ℕ) → 48 ≤ b → b ≤ 57 → digit b ≡ some (b - 48)
unfolding digit
digit_of b h k = rw (digit, le-ltb b 48 h, lt-ltb b 58 (omega arith))

module _ {l : List ℕ} {n i : ℕ} (c : Figuring l n i) where
  -- there is room for one digit more
  pub figuring_small : MayFollow n i → n < 100000000
  figuring_small m = go (dec_lt 0 i)
    where
      go : Dec (0 < i) → n < 100000000
      go (yes h) = omega (arith, c.size, (m h).1, pow-le-pow_right {n = 10} (omega arith) {i = i} {j = 8} (omega (arith, (m h).1)))
      go (no h) = omega (arith, c.size, pow-le-pow_right {n = 10} (omega arith) {i = i} {j = 8} (omega arith))

  pub figuring_goes_on : i < length l → MayFollow n i → 48 ≤ get_or l i 0 → get_or l i 0 ≤ 57 → Figuring l (n * 10 + (get_or l i 0 - 48)) (i + 1)
  figuring_goes_on h m a b =
      record {
        inside = omega arith;
        size = rw (add-one i, pow-suc 10 i) (omega (arith, c.size));
        short = elim (dec_lt 0 i) [ yes k ↦ omega (arith, (m k).1) | no k ↦ omega arith ];
        means = rw (add-one i, take-suc l i 0 h) (decimal_append 0 n (get_or l i 0) (get_or l i 0 - 48) (take i l) c.means (digit_of (get_or l i 0) a b));
        alone = alone_next;
        no_zero = no_zero_next;
      }
    where
      alone_next : i + 1 ≡ 1 → n * 10 + (get_or l i 0 - 48) ≡ get_or l 0 0 - 48
      alone_next e =
          let z : i ≡ 0 = omega arith in
          omega (arith, ap (λ (j : ℕ). get_or l j 0) z, c.size, pow-le-pow_right {n = 10} (omega arith) {i = i} {j = 0} (omega arith))

      no_zero_next : 1 < i + 1 → get_or l 0 0 ≡ 48 → ⊥
      no_zero_next k e = elim (dec_lt 1 i) [ yes j ↦ c.no_zero j e | no j ↦ omega (arith, c.alone (omega arith), (m (omega arith)).0) ]

-- a number and the line feed behind it
pub number_read : {l : List ℕ} {n i : ℕ} → Figuring l n i → 0 < i → i < length l → get_or l i 0 ≡ 10 → NumberRead l (record { number = n; count = i })
number_read {l} {n} {i} c k w e =
    let size : length (take i l) ≡ i = length-take-le i l c.inside in
    record {
      within = w;
      feed = e;
      reads =
          sym (digits_number (take i l) (omega arith) (omega (arith, c.short)) (λ h g. c.no_zero (omega arith) (sym (get_or-take i l 0 0 (omega arith)) ∙ g)))
          ∙ c.means;
    }

pub deliver_of_figures : (input : List ℕ) (from : ℕ) (rest : List ℕ) (f : Figures) {next : ℕ} → from ≤ length input → take (length input - from) (drop from input) ≡ bytes "deliver " ++ rest → NumberRead rest f → next ≡ from + 8 + f.count + 1 → DeliverRead input from (record { number = f.number; next = next })
deliver_of_figures input from rest f {next} h v r s =
    let w : drop from input ≡ bytes "deliver " ++ rest = sym (take_all (length input - from) (drop from input) (rw length-drop (omega arith))) ∙ v in
    let past : drop (from + 8) input ≡ rest = sym (drop-drop 8 from input) ∙ ap (drop 8) w ∙ word_past rest in
    let size : length (drop from input) ≡ 8 + length rest = rw w (omega (arith, length-append (bytes "deliver ") rest, word_length)) in
    let k : from + 8 + f.count - (from + 8) ≡ f.count = omega arith in
    let l : between input (from + 8) (from + 8 + f.count) ≡ take f.count rest = rw (k, past) in
    let d : (length (take f.count rest) ≤ 9) × (decimal_from 0 (take f.count rest) ≡ some f.number) = number_digits (take f.count rest) r.reads in
    let number_there : NumberAt input (from + 8) f.number (from + 8 + f.count) =
    record {
      onward = omega arith;
      short = omega (arith, d.0, length-take-le f.count rest (omega (arith, r.within)));
      within = omega (arith, r.within, size, length-drop from input);
      feed = sym (get_or-drop (from + 8) input f.count 0) ∙ rw past r.feed;
      digits = rw l d.1;
      reads = rw l r.reads;
    } in
    record {
      to = from + 8 + f.count;
      next = s;
      at = deliver_at input from f.number (from + 8 + f.count) (record { inside = omega (arith, size, length-drop from input); word = rw w (word_first rest) }) number_there;
    }

-- the same by the place of the first line feed and the number before it
pub deliver_read : (input : List ℕ) (from : ℕ) (rest : List ℕ) {e n next : ℕ} → from ≤ length input → take (length input - from) (drop from input) ≡ bytes "deliver " ++ rest → Some e ≡ position (λ b. eqb b 10) rest → e < length rest → Some n ≡ optional (number (take e rest)) → next ≡ from + 8 + e + 1 → DeliverRead input from (record { number = n; next = next })
deliver_read input from rest {e} {n} h v p q r s =
    let f : first_feed rest ≡ e = feed_place rest p in
    let read : NumberRead rest (record { number = n; count = e }) = record { within = q; feed = rw f at (there rest (rw f q)); reads = was_some (number (take e rest)) r } in
    deliver_of_figures input from rest (record { number = n; count = e }) h v read s
