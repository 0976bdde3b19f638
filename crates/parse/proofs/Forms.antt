-- Lines made of words that were read: what a reading gives where all its words are good, and where one is not.
use mathlib.Core.Path.{◌≡◌, refl, sym, ap, ◌∙◌}
use mathlib.Core.List.{List, [], ◌∷◌}
use mathlib.Core.Bool.{Bool, true, false}
use mathlib.Core.Option.{Option, none, some}
use mathlib.Core.Logic.{◌⊎◌, inl, inr}
use Rattle.std.specs.Prelude as O
use Rattle.std.specs.Option.{unwrap_or}
use Rattle.std.proofs.lemmas.Option.{same_Some}
use Rattle.entries.specs.Decoded.{Key, Item}
use Prim.Native.Nat.{ℕ, ◌+◌, ◌*◌}
use native.Mathlib.Omega.{arith}
use lib.ListN.{length}
use Rattle.entries.specs.Entries.{order}
use Rattle.table.specs.Form.{same_bytes}
use Rattle.model.specs.Text.{bytes}
use Rattle.model.specs.Calls.{get, set, setif, del, keys}
use Rattle.model.specs.Lines.{Line, cluster, elect, call, deliver, copy, lose, timeout, stop, cut, start}
use Rattle.model.specs.Parse.{hex_digit, pairs, hexadecimal, item, made, made2, made3, made4}
use Rattle.parse.specs.declared.Kind.{Kind}
use Rattle.parse.specs.declared.Kind.TheVariants as K
use Rattle.parse.specs.Digits.{optional, optional_by, present, nibble, pair_bytes, item_bytes}
use Rattle.parse.specs.Kept.{key_for, item_for}
use Rattle.parse.specs.Meaning.{line_of_parts, line_with, line_with_numbers, parsed_call, parsed_line, parsed, number_for, numbers_for, call_for}
use Rattle.parse.specs.declared.Line.{Line as Parsed}
use Rattle.parse.proofs.Sameness.{same_true}
use Rattle.parse.proofs.Pairs.{joined, pair_step, hexadecimal_pairs, item_dash, item_dot, item_pairs, present_value}

-- ---- the bytes of a word that is hexadecimal

digit_value : Option ℕ → ℕ
digit_value o = elim o [ none ↦ 0 | some d ↦ d ]

-- what a pair gives, where it gives anything
joined_bytes : (p q : Option ℕ) (o : Option (List ℕ)) (r : List ℕ) → (present o ≡ true → o ≡ some r) → present (joined p q o) ≡ true → joined p q o ≡ some ((digit_value p * 16 + digit_value q) ∷ r)
unfolding joined present digit_value
joined_bytes none q o r ih h = cc
joined_bytes (some x) none o r ih h = cc
joined_bytes (some x) (some y) none r ih h = cc
joined_bytes (some x) (some y) (some t) r ih h = cc (ih refl)

pairs_bytes : (l : List ℕ) → present (pairs l) ≡ true → pairs l ≡ some (pair_bytes l)
unfolding pairs present pair_bytes nibble digit_value
pairs_bytes [] h = refl
pairs_bytes (a ∷ []) h = cc
pairs_bytes (a ∷ (b ∷ l)) h = pair_step a b l ∙ joined_bytes (hex_digit a) (hex_digit b) (pairs l) (pair_bytes l) (pairs_bytes l) (sym (ap present (pair_step a b l)) ∙ h)

dash_bytes : pair_bytes (bytes "-") ≡ []
unfolding pair_bytes bytes
dash_bytes = refl

pub hexadecimal_bytes : (l : List ℕ) → present (hexadecimal l) ≡ true → hexadecimal l ≡ some (pair_bytes l)
hexadecimal_bytes [] h = unfold hexadecimal present in cc
hexadecimal_bytes (b ∷ l) h = go (same_bytes (b ∷ l) (bytes "-")) refl
  where
    go : (t : Bool) → same_bytes (b ∷ l) (bytes "-") ≡ t → hexadecimal (b ∷ l) ≡ some (pair_bytes (b ∷ l))
    go true e =
        let f : hexadecimal (b ∷ l) ≡ some [] = unfold hexadecimal in rw (hexadecimal, e) in
        f ∙ ap some (sym dash_bytes ∙ ap pair_bytes (sym (same_true (b ∷ l) (bytes "-") e)))
    go false e =
        let f : hexadecimal (b ∷ l) ≡ pairs (b ∷ l) = hexadecimal_pairs (b ∷ l) (λ z. absurd (omega arith)) e in
        f ∙ pairs_bytes (b ∷ l) (sym (ap present f) ∙ h)

dot_bytes : pair_bytes (bytes ".") ≡ []
unfolding pair_bytes bytes
dot_bytes = refl

-- the value of a word that is one
pub item_bytes_lem : (l : List ℕ) → present (item l) ≡ true → item l ≡ some (item_bytes l)
item_bytes_lem [] h = unfold item present in cc
item_bytes_lem (b ∷ l) h = go (same_bytes (b ∷ l) (bytes "-")) refl
  where
    some_byte : length (b ∷ l) ≡ 0 → ⊥
    some_byte z = absurd (omega arith)

    is-there : same_bytes (b ∷ l) (bytes "-") ≡ false → item_bytes (b ∷ l) ≡ some (pair_bytes (b ∷ l))
    is-there e = unfold item_bytes in rw (item_bytes, e)

    other : same_bytes (b ∷ l) (bytes "-") ≡ false → (t : Bool) → same_bytes (b ∷ l) (bytes ".") ≡ t → item (b ∷ l) ≡ some (item_bytes (b ∷ l))
    other e true f =
        item_dot (b ∷ l) some_byte e f
        ∙ ap (λ v. some (some v)) (sym dot_bytes ∙ ap pair_bytes (sym (same_true (b ∷ l) (bytes ".") f)))
        ∙ ap some (sym (is-there e))
    other e false f =
        let g = item_pairs (b ∷ l) some_byte e f in
        let p = pairs_bytes (b ∷ l) (sym (present_value (pairs (b ∷ l))) ∙ sym (ap present g) ∙ h) in
        g ∙ rw (p, is-there e)

    go : (t : Bool) → same_bytes (b ∷ l) (bytes "-") ≡ t → item (b ∷ l) ≡ some (item_bytes (b ∷ l))
    go true e =
        let f : item_bytes (b ∷ l) ≡ none = unfold item_bytes in rw (item_bytes, e) in
        item_dash (b ∷ l) some_byte e ∙ ap some (sym f)
    go false e = other e (same_bytes (b ∷ l) (bytes ".")) refl

-- ---- a word that was read, or not

pub key_reads : (l : List ℕ) → present (hexadecimal l) ≡ true → O.Some (key_for (pair_bytes l)) ≡ optional_by key_for (hexadecimal l)
key_reads l h = rw (hexadecimal_bytes l h)

pub item_reads : (l : List ℕ) → present (item l) ≡ true → O.Some (item_for (item_bytes l)) ≡ optional_by item_for (item l)
item_reads l h = rw (item_bytes_lem l h)

pub unread : {A B : Type 0} (f : A → B) (o : Option A) → present o ≡ false → O.None ≡ optional_by f o
unfolding present
unread f none h = refl
unread f (some a) h = cc

-- ---- a line of words that were read, or of one that was not

pub number_reads : (c : Kind) (x : Option ℕ) {n : ℕ} → O.Some n ≡ optional x → O.Some (line_with_numbers c n 0) ≡ number_for c x
unfolding number_for
number_reads c none h = cc
number_reads c (some a) h = rw (same_Some _ _ h)

pub number_fails : (c : Kind) (x : Option ℕ) → O.None ≡ optional x → O.None ≡ number_for c x
unfolding number_for
number_fails c none h = refl
number_fails c (some a) h = cc

pub numbers_read : (c : Kind) (x y : Option ℕ) {n m : ℕ} → O.Some n ≡ optional x → O.Some m ≡ optional y → O.Some (line_with_numbers c n m) ≡ numbers_for c x y
unfolding numbers_for
numbers_read c none y h k = cc
numbers_read c (some a) none h k = cc
numbers_read c (some a) (some b) h k = rw (same_Some _ _ h, same_Some _ _ k)

pub first_fails : (c : Kind) (x y : Option ℕ) → O.None ≡ optional x → O.None ≡ numbers_for c x y
unfolding numbers_for
first_fails c none y h = refl
first_fails c (some a) y h = cc

pub second_fails : (c : Kind) (x y : Option ℕ) → O.None ≡ optional y → O.None ≡ numbers_for c x y
unfolding numbers_for
second_fails c none y h = refl
second_fails c (some a) none h = refl
second_fails c (some a) (some b) h = cc

module _ (c : Kind) (x : Option ℕ) (y : Option (List ℕ)) (z u : Option (Option (List ℕ))) where
  pub call_reads : {s : ℕ} {k : Key} {e v : Item} → O.Some s ≡ optional x → O.Some k ≡ optional_by key_for y → O.Some e ≡ optional_by item_for z → O.Some v ≡ optional_by item_for u → O.Some (line_of_parts c s 0 k e v) ≡ call_for c x y z u
  unfolding call_for
  call_reads {s} {k} {e} {v} h i j l = go x h y i z j u l
    where
      go : (x : Option ℕ) → O.Some s ≡ optional x → (y : Option (List ℕ)) → O.Some k ≡ optional_by key_for y → (z : Option (Option (List ℕ))) → O.Some e ≡ optional_by item_for z → (u : Option (Option (List ℕ))) → O.Some v ≡ optional_by item_for u → O.Some (line_of_parts c s 0 k e v) ≡ call_for c x y z u
      go none h y i z j u l = cc
      go (some a) h none i z j u l = cc
      go (some a) h (some b) i none j u l = cc
      go (some a) h (some b) i (some d) j none l = cc
      go (some a) h (some b) i (some d) j (some f) l = rw (same_Some _ _ h, same_Some _ _ i, same_Some _ _ j, same_Some _ _ l)

  -- where one of them was not read there is no line
  pub no_call : (o : O.Option Parsed) → call_for c x y z u ≡ o → (O.None ≡ optional x) ⊎ ((O.None ≡ optional_by key_for y) ⊎ ((O.None ≡ optional_by item_for z) ⊎ (O.None ≡ optional_by item_for u))) → O.None ≡ o
  unfolding call_for
  no_call o q h = go x y z u q h
    where
      go : (x : Option ℕ) (y : Option (List ℕ)) (z u : Option (Option (List ℕ))) → call_for c x y z u ≡ o → (O.None ≡ optional x) ⊎ ((O.None ≡ optional_by key_for y) ⊎ ((O.None ≡ optional_by item_for z) ⊎ (O.None ≡ optional_by item_for u))) → O.None ≡ o
      go none y z u q h = q
      go (some a) none z u q h = q
      go (some a) (some b) none u q h = q
      go (some a) (some b) (some d) none q h = q
      go (some a) (some b) (some d) (some f) q (inl h) = cc
      go (some a) (some b) (some d) (some f) q (inr (inl h)) = cc
      go (some a) (some b) (some d) (some f) q (inr (inr (inl h))) = cc
      go (some a) (some b) (some d) (some f) q (inr (inr (inr h))) = cc

-- ---- the definitions' readings, by kinds: `f` makes the line of kind c

one_number : (c : Kind) (f : ℕ → Line) → ((n : ℕ) → line_with_numbers c n 0 ≡ parsed_line (f n)) → (x : Option ℕ) → number_for c x ≡ optional_by parsed_line (made f x)
unfolding number_for made
one_number c f h none = refl
one_number c f h (some n) = ap O.Some (h n)

two_numbers : (c : Kind) (f : ℕ → ℕ → Line) → ((n m : ℕ) → line_with_numbers c n m ≡ parsed_line (f n m)) → (x y : Option ℕ) → numbers_for c x y ≡ optional_by parsed_line (made2 f x y)
unfolding numbers_for made made2
two_numbers c f h none y = refl
two_numbers c f h (some n) none = refl
two_numbers c f h (some n) (some m) = ap O.Some (h n m)

with_key : (c : Kind) (f : ℕ → List ℕ → Line) → ((s : ℕ) (k : List ℕ) → line_with c s 0 k none none ≡ parsed_line (f s k)) → (x : Option ℕ) (y : Option (List ℕ)) → call_for c x y (item (bytes "-")) (item (bytes "-")) ≡ optional_by parsed_line (made2 f x y)
unfolding call_for made made2 item same_bytes order bytes
with_key c f h none y = refl
with_key c f h (some s) none = refl
with_key c f h (some s) (some k) = ap O.Some (h s k)

pub elect_line : (x : Option ℕ) → number_for K.Elect x ≡ optional_by parsed_line (made elect x)
unfolding parsed_line
elect_line = one_number K.Elect elect (λ n. refl)

pub deliver_line_lem : (x : Option ℕ) → number_for K.Deliver x ≡ optional_by parsed_line (made deliver x)
unfolding parsed_line
deliver_line_lem = one_number K.Deliver deliver (λ n. refl)

pub copy_line : (x : Option ℕ) → number_for K.Copy x ≡ optional_by parsed_line (made copy x)
unfolding parsed_line
copy_line = one_number K.Copy copy (λ n. refl)

pub lose_line : (x : Option ℕ) → number_for K.Lose x ≡ optional_by parsed_line (made lose x)
unfolding parsed_line
lose_line = one_number K.Lose lose (λ n. refl)

pub stop_line : (x : Option ℕ) → number_for K.Stop x ≡ optional_by parsed_line (made stop x)
unfolding parsed_line
stop_line = one_number K.Stop stop (λ n. refl)

pub start_line : (x : Option ℕ) → number_for K.Start x ≡ optional_by parsed_line (made start x)
unfolding parsed_line
start_line = one_number K.Start start (λ n. refl)

pub cluster_line_lem : (x y : Option ℕ) → numbers_for K.Cluster x y ≡ optional_by parsed_line (made2 cluster x y)
unfolding parsed_line
cluster_line_lem = two_numbers K.Cluster cluster (λ n m. refl)

pub timeout_line : (x y : Option ℕ) → numbers_for K.Timeout x y ≡ optional_by parsed_line (made2 timeout x y)
unfolding parsed_line
timeout_line = two_numbers K.Timeout timeout (λ n m. refl)

pub cut_line : (x y : Option ℕ) → numbers_for K.Cut x y ≡ optional_by parsed_line (made2 cut x y)
unfolding parsed_line
cut_line = two_numbers K.Cut cut (λ n m. refl)

pub keys_line : (x y : Option ℕ) → numbers_for K.Keys x y ≡ optional_by parsed_line (made2 (λ s n. call s (keys n)) x y)
unfolding parsed_line parsed_call
keys_line = two_numbers K.Keys (λ s n. call s (keys n)) (λ n m. refl)

pub get_line : (x : Option ℕ) (y : Option (List ℕ)) → call_for K.Get x y (item (bytes "-")) (item (bytes "-")) ≡ optional_by parsed_line (made2 (λ s k. call s (get k)) x y)
unfolding parsed_line parsed_call
get_line = with_key K.Get (λ s k. call s (get k)) (λ s k. refl)

pub del_line : (x : Option ℕ) (y : Option (List ℕ)) → call_for K.Del x y (item (bytes "-")) (item (bytes "-")) ≡ optional_by parsed_line (made2 (λ s k. call s (del k)) x y)
unfolding parsed_line parsed_call
del_line = with_key K.Del (λ s k. call s (del k)) (λ s k. refl)

pub set_line : (x : Option ℕ) (y : Option (List ℕ)) (z : Option (Option (List ℕ))) → call_for K.Set x y (item (bytes "-")) z ≡ optional_by parsed_line (made3 (λ s k v. call s (set k v)) x y z)
unfolding call_for parsed_line parsed_call made made2 made3 item same_bytes order bytes
set_line none y z = refl
set_line (some s) none z = refl
set_line (some s) (some k) none = refl
set_line (some s) (some k) (some v) = refl

pub setif_line : (x : Option ℕ) (y : Option (List ℕ)) (z u : Option (Option (List ℕ))) → call_for K.SetIf x y z u ≡ optional_by parsed_line (made4 (λ s k e v. call s (setif k e v)) x y z u)
unfolding call_for parsed_line parsed_call made made2 made3 made4
setif_line none y z u = refl
setif_line (some s) none z u = refl
setif_line (some s) (some k) none u = refl
setif_line (some s) (some k) (some e) none = refl
setif_line (some s) (some k) (some e) (some v) = refl

-- ---- a line that was read, or that it is malformed

pub parsed_some : (o : Option Line) {r : Parsed} → O.Some r ≡ optional_by parsed_line o → r ≡ parsed o
unfolding parsed
parsed_some none h = cc
parsed_some (some l) h = same_Some _ _ h

pub parsed_none : (o : Option Line) {r : Parsed} → O.None ≡ optional_by parsed_line o → r ≡ parsed none → r ≡ parsed o
parsed_none none h k = k
parsed_none (some l) h k = cc

-- of both at once: what stands for none is a malformed line
pub parsed_or : (o : Option Line) {r : O.Option Parsed} {m l : Parsed} → r ≡ optional_by parsed_line o → m ≡ line_with_numbers K.Malformed 0 0 → l ≡ unwrap_or r m → l ≡ parsed o
unfolding parsed
parsed_or o {r = O.Some x} h e k = k ∙ parsed_some o h
parsed_or o {r = O.None} h e k = parsed_none o h (k ∙ e)
