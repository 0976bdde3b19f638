-- An input read byte by byte, in any parts, prints what the definitions print for the whole of it, and leaves that state.
use mathlib.Core.Path.{◌≡◌, refl, sym, ap, ◌∙◌}
use mathlib.Core.List.{List, [], ◌∷◌, ◌++◌, reverse, reverse-cons, flatten, append_assoc, append-nil}
use mathlib.Core.Bool.{Bool, true, false}
use Prim.Native.Nat.{ℕ, zero, suc, ◌≤◌, ◌<◌, ◌+◌}
use native.Mathlib.Omega.{arith}
use native.Mathlib.Decide.{dec_le}
use lib.Dec.{eqb}
use lib.ListN.{length, take, length-append, length-reverse}
use borrow.Author.Tests.{lt-ltb, le-ltb, lt-leb}
use Rattle.model.specs.Measures.{max_lines, max_line_bytes}
use Rattle.model.specs.Lines.{State, initial_state, LineResult, refusal}
use Rattle.model.specs.Parse.{parse}
use Rattle.model.specs.Run.{step, step_up_to, state_after, state_after_up_to, last_line, lines_from, lines_of, printed_from, run}
use Rattle.input.specs.Reading.{Reading, reading, start, kept, kept_all, ended, ended_text, byte_read, byte_text, fed, fed_text}
use Rattle.input.specs.Reading.{fed_parts, fed_parts_text, last_read, last_text, finished, finished_text}
use Rattle.input.proofs.Parts.{fed_append, fed_text_append, kept_more, kept_no_more, kept_all_append, past_kept, past_silent}
use Rattle.input.proofs.Parts.{byte_kept, byte_silent, byte_ends, byte_prints}

-- ---- what is kept of a line is the line itself, or both are longer than a line may be

kept_whole : (l m : List ℕ) → length l + length m ≤ 121 → kept_all l m ≡ l ++ m
unfolding kept_all
kept_whole l [] h = sym (append-nil l)
kept_whole l (b ∷ m) h =
    ap (λ (k : List ℕ). kept_all k m) (kept_more l b (omega arith))
    ∙ kept_whole (l ++ (b ∷ [])) m (omega (arith, length-append l (b ∷ [])))
    ∙ append_assoc l (b ∷ []) m

kept_long : (l m : List ℕ) → 120 < length l + length m → 120 < length (kept_all l m)
unfolding kept_all
kept_long l [] h = omega arith
kept_long l (b ∷ m) h = go (dec_le (length l) 120) (kept_long (l ++ (b ∷ [])) m) (kept_long l m)
  where
    go : Dec (length l ≤ 120) → (120 < length (l ++ (b ∷ [])) + length m → 120 < length (kept_all (l ++ (b ∷ [])) m)) → (120 < length l + length m → 120 < length (kept_all l m)) → 120 < length (kept_all (kept l b) m)
    go (yes k) f g = rw (kept_more l b k) (f (omega (arith, length-append l (b ∷ []))))
    go (no k) f g = rw (kept_no_more l b (omega arith)) (g (omega arith))

kept_some : (l : List ℕ) → 0 < length l → 0 < length (kept_all [] l)
kept_some l h = go (dec_le (length l) 121)
  where
    go : Dec (length l ≤ 121) → 0 < length (kept_all [] l)
    go (yes k) = rw (kept_whole [] l (omega arith)) h
    go (no k) = omega (arith, kept_long [] l (omega arith))

-- ---- so a line and what is kept of it do the same

step_long : (s : State) (l : List ℕ) → 120 < length l → step s l ≡ record { state = s; outcome = refusal 1 }
unfolding step_up_to parse
step_long s l h = rw (step_up_to, parse, lt-leb (length l) max_line_bytes h)

pub step_kept : (s : State) (l : List ℕ) → step s (kept_all [] l) ≡ step s l
step_kept s l = go (dec_le (length l) 120)
  where
    go : Dec (length l ≤ 120) → step s (kept_all [] l) ≡ step s l
    go (yes k) = ap (step s) (kept_whole [] l (omega arith))
    go (no k) = step_long s (kept_all [] l) (kept_long [] l (omega arith)) ∙ sym (step_long s l (omega arith))

held_same : (r : Reading) (w : List ℕ) → r.line ≡ kept_all [] (reverse w) → step r.state r.line ≡ step r.state (reverse w)
held_same r w k = ap (step r.state) k ∙ step_kept r.state (reverse w)

-- ---- the lines of an input, from a reading on

-- from a reading on, `text` is what the lines print and the tally after them, and `s` the state that they leave
pub record Agrees (r : Reading) (lines : List (List ℕ)) (text : List ℕ) (s : State) : Type 0 where
  pub printed : text ≡ printed_from (r.lines + 1) r.state lines
  pub reached : s ≡ state_after r.state lines

-- which lines the bytes of an input are, and what is printed and left after them. `w` is what has been read of the present line, its
-- last byte first
pub record Ending : Type 0 where
  pub lines : List ℕ → List ℕ → List (List ℕ)
  pub text : Reading → List ℕ
  pub state : Reading → State
  pub at_feed : (w : List ℕ) (b : ℕ) (l : List ℕ) → eqb b 10 ≡ true → lines w (b ∷ l) ≡ reverse w ∷ lines [] l
  pub at_byte : (w : List ℕ) (b : ℕ) (l : List ℕ) → eqb b 10 ≡ false → lines w (b ∷ l) ≡ lines (b ∷ w) l
  pub past : (r : Reading) → max_lines ≤ r.lines → Agrees r [] (text r) (state r)
  pub at_end : (r : Reading) (n : ℕ) (w : List ℕ) → r.lines < max_lines → r.line ≡ kept_all [] (reverse w) → Agrees r (take (suc n) (lines w [])) (text r) (state r)

module _ (e : Ending) where
  -- `left` lines may still be read
  abbrev pub AgreesOn : Reading → ℕ → List ℕ → List ℕ → Type 0
  AgreesOn r left w input = Agrees r (take left (e.lines w input)) (fed_text r input ++ e.text (fed r input)) (e.state (fed r input))

  agrees_past : (r : Reading) (w input : List ℕ) → max_lines ≤ r.lines → AgreesOn r 0 w input
  agrees_past r w input h = rw (past_silent r input h, past_kept r input h) (e.past r h)

  -- a line feed, and any other byte
  agrees_ended : (r : Reading) (n : ℕ) (w : List ℕ) (b : ℕ) (l : List ℕ) → r.lines < max_lines → eqb b 10 ≡ true → r.line ≡ kept_all [] (reverse w) → AgreesOn (ended r) n [] l → AgreesOn r (suc n) w (b ∷ l)
  unfolding fed fed_text printed_from state_after_up_to
  agrees_ended r n w b l h f k a =
      rw (byte_prints r b h f, byte_ends r b h f, e.at_feed w b l f, append_assoc)
      (record {
        printed = rw (← held_same r w k) (ap (λ (t : List ℕ). ended_text r ++ t) a.printed);
        reached = a.reached ∙ ap (λ (x : LineResult). state_after x.state (take n (e.lines [] l))) (held_same r w k);
      })

  agrees_kept : (r : Reading) (n : ℕ) (w : List ℕ) (b : ℕ) (l : List ℕ) → r.lines < max_lines → eqb b 10 ≡ false → AgreesOn (reading r.state r.lines (kept r.line b)) (suc n) (b ∷ w) l → AgreesOn r (suc n) w (b ∷ l)
  unfolding fed fed_text
  agrees_kept r n w b l h f a =
      rw (byte_silent r b h f, byte_kept r b h f, e.at_byte w b l f)
      (record { printed = a.printed; reached = a.reached })

  agrees : (input w : List ℕ) (r : Reading) (left : ℕ) → r.lines + left ≡ max_lines → r.line ≡ kept_all [] (reverse w) → AgreesOn r left w input
  unfolding fed fed_text
  agrees [] w r zero h k = agrees_past r w [] (omega arith)
  agrees [] w r (suc n) h k = e.at_end r n w (omega arith) k
  agrees (b ∷ l) w r zero h k = agrees_past r w (b ∷ l) (omega arith)
  agrees (b ∷ l) w r (suc n) h k =
      go (eqb b 10) refl (agrees l [] (ended r) n) (agrees l (b ∷ w) (reading r.state r.lines (kept r.line b)) (suc n) h)
    where
      more : kept r.line b ≡ kept_all [] (reverse (b ∷ w))
      more = unfold kept_all in rw (reverse-cons b w, kept_all_append [] (reverse w) (b ∷ []), k)

      go : (t : Bool) → eqb b 10 ≡ t → (r.lines + 1 + n ≡ max_lines → ◌≡◌ {A = List ℕ} [] (kept_all [] []) → AgreesOn (ended r) n [] l) → (kept r.line b ≡ kept_all [] (reverse (b ∷ w)) → AgreesOn (reading r.state r.lines (kept r.line b)) (suc n) (b ∷ w) l) → AgreesOn r (suc n) w (b ∷ l)
      go true p f g = agrees_ended r n w b l (omega arith) p k (f (omega arith) (unfold kept_all in refl))
      go false p f g = agrees_kept r n w b l (omega arith) p (g more)

  -- from the start on
  pub agrees_from_start : (input : List ℕ) → AgreesOn start max_lines [] input
  agrees_from_start input = agrees input [] start max_lines refl (unfold kept_all in refl)

-- ---- the end of the input

last_none : (r : Reading) (l : List ℕ) → max_lines ≤ r.lines → (last_read r l ≡ r) × (last_text r l ≡ [])
unfolding last_read last_text
last_none r [] h = (refl, refl)
last_none r (b ∷ l) h = (rw (last_read, le-ltb r.lines max_lines h), rw (last_text, le-ltb r.lines max_lines h))

last_empty : (r : Reading) (l : List ℕ) → l ≡ [] → (last_read r l ≡ r) × (last_text r l ≡ [])
unfolding last_read last_text
last_empty r l e = (rw e, rw e)

last_some : (r : Reading) (l : List ℕ) → r.lines < max_lines → 0 < length l → (last_read r l ≡ ended r) × (last_text r l ≡ ended_text r)
unfolding last_read last_text
last_some r [] h k = absurd (omega arith)
last_some r (b ∷ l) h k = (rw (last_read, lt-ltb r.lines max_lines h), rw (last_text, lt-ltb r.lines max_lines h))

-- the end of the input after a line that is not empty does what a line feed there does
pub last_is_fed : (r : Reading) (l : List ℕ) → 0 < length l → (last_read r l ≡ fed r (10 ∷ [])) × (last_text r l ≡ fed_text r (10 ∷ []))
unfolding last_read last_text fed fed_text byte_read byte_text
last_is_fed r [] h = absurd (omega arith)
last_is_fed r (b ∷ l) h = (refl, sym (append-nil (byte_text r 10)))

-- ---- the whole input

whole_past : (r : Reading) → max_lines ≤ r.lines → Agrees r [] (finished_text r) (finished r).state
unfolding finished finished_text printed_from state_after_up_to
whole_past r h =
    record {
      printed = rw ((last_none r r.line h).1, (last_none r r.line h).0);
      reached = rw (last_none r r.line h).0;
    }

take_none : (n : ℕ) → ◌≡◌ {A = List (List ℕ)} (take n []) []
take_none zero = refl
take_none (suc n) = refl

whole_end : (r : Reading) (n : ℕ) (w : List ℕ) → r.lines < max_lines → r.line ≡ kept_all [] (reverse w) → Agrees r (take (suc n) (lines_from w [])) (finished_text r) (finished r).state
unfolding finished finished_text lines_from last_line printed_from state_after_up_to kept_all
whole_end r n [] h k =
    record {
      printed = rw ((last_empty r r.line k).1, (last_empty r r.line k).0);
      reached = rw (last_empty r r.line k).0;
    }
whole_end r n (c ∷ w) h k =
    record {
      printed = rw ((last_some r r.line h some).1, (last_some r r.line h some).0, held_same r (c ∷ w) k, take_none n) refl;
      reached = rw ((last_some r r.line h some).0, held_same r (c ∷ w) k, take_none n) refl;
    }
  where
    some : 0 < length r.line
    some = rw k (kept_some (reverse (c ∷ w)) (rw (length-reverse (c ∷ w)) (omega arith)))

whole_feed : (w : List ℕ) (b : ℕ) (l : List ℕ) → eqb b 10 ≡ true → lines_from w (b ∷ l) ≡ reverse w ∷ lines_from [] l
unfolding lines_from
whole_feed w b l e = rw (lines_from, e)

whole_byte : (w : List ℕ) (b : ℕ) (l : List ℕ) → eqb b 10 ≡ false → lines_from w (b ∷ l) ≡ lines_from (b ∷ w) l
unfolding lines_from
whole_byte w b l e = rw (lines_from, e)

abbrev whole : Ending
whole = record { lines = lines_from; text = finished_text; state = λ r. (finished r).state; at_feed = whole_feed; at_byte = whole_byte; past = whole_past; at_end = whole_end }

pub printed_whole : (input : List ℕ) → fed_text start input ++ finished_text (fed start input) ≡ run input
unfolding run lines_of
printed_whole input = (agrees_from_start whole input).printed

pub state_whole : (input : List ℕ) → (finished (fed start input)).state ≡ state_after initial_state (lines_of input)
unfolding lines_of
state_whole input = (agrees_from_start whole input).reached

-- ---- and any parts of it

pub parts_fed : (r : Reading) (parts : List (List ℕ)) → fed_parts r parts ≡ fed r (flatten parts)
unfolding fed_parts fed flatten
parts_fed r [] = refl
parts_fed r (l ∷ ls) = parts_fed (fed r l) ls ∙ sym (fed_append r l (flatten ls))

pub parts_text : (r : Reading) (parts : List (List ℕ)) → fed_parts_text r parts ≡ fed_text r (flatten parts)
unfolding fed_parts_text fed_text flatten
parts_text r [] = refl
parts_text r (l ∷ ls) = ap (λ (t : List ℕ). fed_text r l ++ t) (parts_text (fed r l) ls) ∙ sym (fed_text_append r l (flatten ls))

-- wherever the input is cut, the same is printed
pub cut_anywhere : (parts : List (List ℕ)) → fed_parts_text start parts ++ finished_text (fed_parts start parts) ≡ run (flatten parts)
cut_anywhere parts = rw (parts_text start parts, parts_fed start parts) (printed_whole (flatten parts))

-- and the same state is left
pub cut_anywhere_state : (parts : List (List ℕ)) → (finished (fed_parts start parts)).state ≡ state_after initial_state (lines_of (flatten parts))
cut_anywhere_state parts = rw (parts_fed start parts) (state_whole (flatten parts))
