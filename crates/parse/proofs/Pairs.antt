-- Keys and values: which words are pairs of hexadecimal digits, and the bytes that pairs stand for.
use mathlib.Core.Path.{◌≡◌, refl, sym, ap, ◌∙◌}
use mathlib.Core.List.{List, [], ◌∷◌, map}
use mathlib.Core.Bool.{Bool, true, false, not, ◌&&◌, ◌||◌, and-true, and-false, and_assoc}
use Rattle.std.specs.Prelude as O
use Rattle.std.specs.Prelude.{IfSome, is_some}
use Rattle.std.specs.Option.{unwrap_or}
use Rattle.std.specs.List.{fold, list_all, range_with_len}
use Rattle.std.proofs.lemmas.Option.{same_Some}
use mathlib.Core.Option.{Option, none, some}
use Prim.Native.Nat.{ℕ, zero, suc, ◌≤◌, ◌<◌, ◌+◌, ◌*◌, ◌/◌, ◌%◌}
use native.Mathlib.Omega.{arith}
use borrow.Author.Tests.{ne_eqb}
use lib.Dec.{eqb}
use lib.ListN.{length, get_or}
use Rattle.entries.specs.Decoded.{Value}
use Rattle.table.specs.Form.{same_bytes}
use Rattle.model.specs.Text.{bytes}
use Rattle.model.specs.Parse.{hex_digit, pairs, hexadecimal, item}
use Rattle.parse.specs.Digits.{optional, present, nibble, Nibble, pair_bytes, item_bytes}
use Rattle.parse.specs.Kept.{text_for, value_for, item_for}
use Rattle.parse.proofs.Padding.{padded_places}

-- ---- a byte as a digit, 0 where it is none

pub nibble_read : (b : ℕ) {o : O.Option ℕ} {r : ℕ} → o ≡ optional (hex_digit b) → IfSome o (λ d. d ≤ 15) → r ≡ unwrap_or o 0 → Nibble b r
nibble_read b {o} {r} e h k = go (hex_digit b) refl o e h k
  where
    go : (x : Option ℕ) → hex_digit b ≡ x → (o : O.Option ℕ) → o ≡ optional x → IfSome o (λ d. d ≤ 15) → r ≡ unwrap_or o 0 → Nibble b r
    go none f O.None g h k = record { is = unfold nibble in rw (nibble, f, k); low = omega arith }
    go none f (O.Some d) g h k = absurd (cc)
    go (some d) f O.None g h k = absurd (cc)
    go (some d) f (O.Some x) g h k = record { is = unfold nibble in rw (nibble, f, k) (same_Some _ _ g); low = rw k h }

-- ---- one pair more

unfoldable pub joined : Option ℕ → Option ℕ → Option (List ℕ) → Option (List ℕ)
joined p q o =
    elim p [
      | none ↦ none
      | some x ↦
          elim q [
            | none ↦ none
            | some y ↦
                elim o [ none ↦ none | some r ↦ some ((x * 16 + y) ∷ r) ]
          ]
    ]

pub pair_step : (a b : ℕ) (l : List ℕ) → pairs (a ∷ (b ∷ l)) ≡ joined (hex_digit a) (hex_digit b) (pairs l)
unfolding pairs joined
pair_step a b l = refl

-- with two digits it is as without them
joined_good : (x y : ℕ) (o : Option (List ℕ)) → present (joined (some x) (some y) o) ≡ present o
unfolding joined present
joined_good x y none = refl
joined_good x y (some r) = refl

-- pairs are an even number of digits
pub pairs_all : (l : List ℕ) → present (pairs l) ≡ (eqb (length l % 2) 0 && list_all (λ b. is_some (optional (hex_digit b))) l)
unfolding pairs present
pairs_all [] = refl
pairs_all (a ∷ []) = refl
pairs_all (a ∷ (b ∷ l)) = pair (hex_digit a) refl (hex_digit b) refl (pairs_all l)
  where
    even : length (a ∷ (b ∷ l)) % 2 ≡ length l % 2
    even = omega arith

    pair : (x : Option ℕ) → hex_digit a ≡ x → (y : Option ℕ) → hex_digit b ≡ y → present (pairs l) ≡ (eqb (length l % 2) 0 && list_all (λ b. is_some (optional (hex_digit b))) l) → present (pairs (a ∷ (b ∷ l))) ≡ (eqb (length (a ∷ (b ∷ l)) % 2) 0 && list_all (λ b. is_some (optional (hex_digit b))) (a ∷ (b ∷ l)))
    pair none e y f ih = rw (pair_step a b l, e) (unfold joined in sym (and-false (eqb (length (a ∷ (b ∷ l)) % 2) 0)))
    pair (some x) e none f ih = rw (pair_step a b l, e, f) (unfold joined in sym (and-false (eqb (length (a ∷ (b ∷ l)) % 2) 0)))
    pair (some x) e (some y) f ih = rw (pair_step a b l, e, f, even) (joined_good x y (pairs l) ∙ ih)

-- whether all of them pass, from the first to the last
fold_from : (f : ℕ → Bool) (r : Bool) (l : List ℕ) → fold (λ r b. r && f b) r l ≡ (r && list_all f l)
fold_from f r [] = sym (and-true r)
fold_from f r (b ∷ l) = fold_from f (r && f b) l ∙ and_assoc r (f b) (list_all f l)

pub pairs_present : (l : List ℕ) → present (pairs l) ≡ (eqb (length l % 2) 0 && fold (λ r b. r && is_some (optional (hex_digit b))) true l)
pairs_present l = rw (fold_from (λ b. is_some (optional (hex_digit b))) true l) (pairs_all l)

-- ---- which words stand for bytes

pub hexadecimal_dash : (l : List ℕ) → (length l ≡ 0 → ⊥) → same_bytes l (bytes "-") ≡ true → present (hexadecimal l) ≡ true
unfolding hexadecimal present
hexadecimal_dash [] h e = absurd (h refl)
hexadecimal_dash (b ∷ l) h e = rw (hexadecimal, e)

pub hexadecimal_pairs : (l : List ℕ) → (length l ≡ 0 → ⊥) → same_bytes l (bytes "-") ≡ false → hexadecimal l ≡ pairs l
unfolding hexadecimal
hexadecimal_pairs [] h e = absurd (h refl)
hexadecimal_pairs (b ∷ l) h e = rw (hexadecimal, e)

pub item_dash : (l : List ℕ) → (length l ≡ 0 → ⊥) → same_bytes l (bytes "-") ≡ true → item l ≡ some none
unfolding item
item_dash [] h e = absurd (h refl)
item_dash (b ∷ l) h e = rw (item, e)

pub item_dot : (l : List ℕ) → (length l ≡ 0 → ⊥) → same_bytes l (bytes "-") ≡ false → same_bytes l (bytes ".") ≡ true → item l ≡ some (some [])
unfolding item
item_dot [] h e f = absurd (h refl)
item_dot (b ∷ l) h e f = rw (item, e, f)

pub item_pairs : (l : List ℕ) → (length l ≡ 0 → ⊥) → same_bytes l (bytes "-") ≡ false → same_bytes l (bytes ".") ≡ false → item l ≡ elim (pairs l) [ none ↦ none | some v ↦ some (some v) ]
unfolding item
item_pairs [] h e f = absurd (h refl)
item_pairs (b ∷ l) h e f = rw (item, e, f)

pub present_value : (o : Option (List ℕ)) → present {A = Option (List ℕ)} (elim o [ none ↦ none | some v ↦ some (some v) ]) ≡ present o
unfolding present
present_value none = refl
present_value (some v) = refl

-- the tests that the code makes
pub key_present : (l : List ℕ) → present (hexadecimal l) ≡ (not (eqb (length l) 0) && (same_bytes l (45 ∷ []) || present (pairs l)))
unfolding bytes
key_present [] = unfold hexadecimal present in refl
key_present (b ∷ l) = go (same_bytes (b ∷ l) (45 ∷ [])) refl
  where
    some_byte : length (b ∷ l) ≡ 0 → ⊥
    some_byte z = absurd (omega arith)

    counted : eqb (length (b ∷ l)) 0 ≡ false
    counted = ne_eqb (length (b ∷ l)) 0 some_byte

    go : (t : Bool) → same_bytes (b ∷ l) (45 ∷ []) ≡ t → present (hexadecimal (b ∷ l)) ≡ (not (eqb (length (b ∷ l)) 0) && (same_bytes (b ∷ l) (45 ∷ []) || present (pairs (b ∷ l))))
    go true e = hexadecimal_dash (b ∷ l) some_byte e ∙ rw (e, counted)
    go false e = ap present (hexadecimal_pairs (b ∷ l) some_byte e) ∙ rw (e, counted)

pub item_present : (l : List ℕ) → present (item l) ≡ (not (eqb (length l) 0) && (same_bytes l (45 ∷ []) || (same_bytes l (46 ∷ []) || present (pairs l))))
unfolding bytes present
item_present [] = unfold item in refl
item_present (b ∷ l) = go (same_bytes (b ∷ l) (45 ∷ [])) refl (same_bytes (b ∷ l) (46 ∷ [])) refl
  where
    some_byte : length (b ∷ l) ≡ 0 → ⊥
    some_byte z = absurd (omega arith)

    counted : eqb (length (b ∷ l)) 0 ≡ false
    counted = ne_eqb (length (b ∷ l)) 0 some_byte

    go : (t : Bool) → same_bytes (b ∷ l) (45 ∷ []) ≡ t → (u : Bool) → same_bytes (b ∷ l) (46 ∷ []) ≡ u → present (item (b ∷ l)) ≡ (not (eqb (length (b ∷ l)) 0) && (same_bytes (b ∷ l) (45 ∷ []) || (same_bytes (b ∷ l) (46 ∷ []) || present (pairs (b ∷ l)))))
    go true e u f = ap present (item_dash (b ∷ l) some_byte e) ∙ rw (e, counted)
    go false e true f = ap present (item_dot (b ∷ l) some_byte e f) ∙ rw (e, f, counted)
    go false e false f = ap present (item_pairs (b ∷ l) some_byte e f) ∙ rw (e, f, counted) (present_value (pairs (b ∷ l)))

-- ---- the bytes of pairs

pub length_pairs : (l : List ℕ) → length (pair_bytes l) ≡ length l / 2
unfolding pair_bytes
length_pairs [] = omega arith
length_pairs (a ∷ []) = omega arith
length_pairs (a ∷ (b ∷ l)) = omega (arith, length_pairs l)

pub pair_byte : (l : List ℕ) (i : ℕ) → i < length l / 2 → get_or (pair_bytes l) i 0 ≡ nibble (get_or l (2 * i) 0) * 16 + nibble (get_or l (2 * i + 1) 0)
unfolding pair_bytes
pair_byte [] i h = absurd (omega arith)
pair_byte (a ∷ []) i h = absurd (omega arith)
pair_byte (a ∷ (b ∷ l)) zero h = refl
pair_byte (a ∷ (b ∷ l)) (suc i) h =
    let e : 2 * suc i ≡ suc (suc (2 * i)) = omega arith in
    let f : 2 * suc i + 1 ≡ suc (suc (2 * i + 1)) = omega arith in
    rw (f, e) (pair_byte l i (omega arith))

-- ---- keys and values by value

pub text_padded : {room : ℕ} (s : List ℕ) {b : List ℕ} {len : ℕ} → b ≡ map (λ k. get_or s k 0) (range_with_len 0 room) → len ≡ length s → record { bytes = b; len = len } ≡ text_for {room = room} s
unfolding text_for
text_padded {room} s h e = rw (e, h, padded_places room s)

pub item_there : (w : List ℕ) (v : Value) → same_bytes w (bytes "-") ≡ false → v ≡ value_for (pair_bytes w) → O.Some v ≡ item_for (item_bytes w)
unfolding item_for item_bytes
item_there w v h e = rw (item_bytes, h, e)

pub item_absent : (w : List ℕ) → same_bytes w (bytes "-") ≡ true → O.None ≡ item_for (item_bytes w)
unfolding item_for item_bytes
item_absent w h = rw (item_bytes, h)
