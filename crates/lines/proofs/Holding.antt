-- The bytes of the present line, one after the other.
use mathlib.Core.Logic.{◌≢◌, ◌⊎◌, inl, inr}
use mathlib.Core.Path.{◌≡◌, refl, sym, ap, ◌∙◌}
use mathlib.Core.Bool.{Bool, true, false}
use mathlib.Core.List.{List, [], ◌∷◌, ◌++◌, append_assoc}
use Prim.Native.Nat.{ℕ, suc, ◌+◌, ◌-◌, ◌≤◌, ◌<◌, min}
use native.Mathlib.Omega.{arith}
use native.Mathlib.Numerals.{add-one}
use native.Mathlib.Decide.{dec_le}
use native.Mathlib.Nat.{min-eq_left, min-eq_right, le_refl, add-zero}
use lib.Dec.{ltb}
use lib.ListN.{length, take, drop, set, length-set, take-append-drop, drop_of_length-le}
use lib.Seq.{take_all, take-suc-set, length-take-le, sets, sets-eq, drop-drop}
use borrow.Rule.Slice.PartMut.{put_mid}
use borrow.Author.Tests.{lt-ltb, le-ltb, lt-leb, le-leb, ltb-true, ltb-false, eq-eqb, ne_eqb}
use Rattle.model.specs.Measures.{max_line_bytes}
use Rattle.input.specs.Reading.{kept, kept_all}
use Rattle.lines.specs.Sessions.{Held, held, present_line, put, put_all, ended_line, held_after}

pub put_all_append : (h : Held) (a b : List ℕ) → put_all h (a ++ b) ≡ put_all (put_all h a) b
unfolding put_all
put_all_append h [] b = refl
put_all_append h (x ∷ a) b = put_all_append (put h x) a b

-- bytes that find room
put_run : (l : List ℕ) (n : ℕ) (b : List ℕ) → n + length b ≤ 121 → put_all (held l n) b ≡ held (sets l n b) (n + length b)
unfolding put_all put
put_run l n [] h = ap (held l) (sym (add-zero n))
put_run l n (x ∷ b) h =
    let e : n + 1 + length b ≡ n + suc (length b) = omega arith in
    rw (put, lt-ltb n 121 (omega arith)) (put_run (set l n x) (n + 1) b (omega arith) ∙ rw (e, add-one n))

-- and those that find none
pub put_none : (h : Held) (b : List ℕ) → 121 ≤ h.count → put_all h b ≡ h
unfolding put_all put
put_none h [] k = refl
put_none h (x ∷ b) k = rw (put, le-ltb h.count 121 k) (put_none h b k)

-- as many of them as there is room for
pub put_cut : (l : List ℕ) (n : ℕ) (b : List ℕ) {k : ℕ} {mid : List ℕ} → length l ≡ 121 → n < 121 → k ≡ min (length b) (121 - n) → mid ≡ take k b → held (put_mid n (n + k - n) l mid) (n + k) ≡ put_all (held l n) b
put_cut l n b {k} {mid} s h e m =
    let z : length (take k b) ≡ k = length-take-le k b (omega arith) in
    let d : n + k - n ≡ k = omega arith in
    let run : put_all (held l n) (take k b) ≡ held (sets l n (take k b)) (n + k) = put_run l n (take k b) (omega arith) ∙ rw z in
    let stored : sets l n (take k b) ≡ put_mid n (n + k - n) l mid = sets-eq (take k b) l n (omega arith) ∙ append_assoc (take n l) (take k b) (drop (n + length (take k b)) l) ∙ rw (z, d, m, drop-drop) in
    let rest : put_all (held (sets l n (take k b)) (n + k)) (drop k b) ≡ held (sets l n (take k b)) (n + k) = none_left (held (sets l n (take k b)) (n + k)) b k (either (dec_le (length b) k)) in
    rw (← stored) (sym (ap (put_all (held l n)) (sym (take-append-drop k b)) ∙ put_all_append (held l n) (take k b) (drop k b) ∙ rw run rest))
  where
    none_left : (h : Held) (b : List ℕ) (k : ℕ) → (length b ≤ k) ⊎ (121 ≤ h.count) → put_all h (drop k b) ≡ h
    none_left h b k (inl f) = unfold put_all in rw (drop_of_length-le b {i = k} f)
    none_left h b k (inr f) = put_none h (drop k b) f

    either : Dec (length b ≤ k) → (length b ≤ k) ⊎ (121 ≤ n + k)
    either (yes f) = inl f
    either (no f) = inr (omega arith)

-- a count above the room counts as all of it
pub present_cut : (l : List ℕ) (count : ℕ) → take (min count (length l)) l ≡ present_line (held l count)
unfolding present_line
present_cut l count = go (dec_le (length l) count)
  where
    go : Dec (length l ≤ count) → take (min count (length l)) l ≡ present_line (held l count)
    go (yes h) = rw (min-eq_right h, take_all (length l) l (le_refl (length l)), take_all count l h)
    go (no h) =
        let w : count ≤ length l = omega arith in
        rw (min-eq_left w)

-- ---- what is held stands for what is kept

pub put_size : (h : Held) (b : ℕ) → length (put h b).bytes ≡ length h.bytes
unfolding put
put_size h b = go (ltb h.count 121) refl
  where
    go : (t : Bool) → ltb h.count 121 ≡ t → length (put h b).bytes ≡ length h.bytes
    go true e = rw (put, e) (length-set h.bytes h.count b)
    go false e = rw (put, e)

pub put_means : (h : Held) (b : ℕ) → length h.bytes ≡ 121 → present_line (put h b) ≡ kept (present_line h) b
unfolding present_line put kept
put_means h b s = go (ltb h.count 121) refl
  where
    go : (t : Bool) → ltb h.count 121 ≡ t → present_line (put h b) ≡ kept (present_line h) b
    go true e =
        let w : h.count < 121 = ltb-true h.count 121 e in
        let n : length (take h.count h.bytes) ≡ h.count = length-take-le h.count h.bytes (omega arith) in
        rw (put, e, kept, n, le-leb h.count 120 (omega arith), add-one) (take-suc-set h.bytes h.count b (omega arith))
    go false e =
        let w : 121 ≤ h.count = ltb-false h.count 121 e in
        let a : take h.count h.bytes ≡ h.bytes = take_all h.count h.bytes (omega arith) in
        let n : length (present_line h) ≡ 121 = rw (present_line, a) s in
        rw (put, e, kept, lt-leb (length (present_line h)) max_line_bytes (omega arith))

pub put_all_means : (h : Held) (l : List ℕ) → length h.bytes ≡ 121 → present_line (put_all h l) ≡ kept_all (present_line h) l
unfolding put_all kept_all
put_all_means h [] s = refl
put_all_means h (b ∷ l) s = put_all_means (put h b) l (put_size h b ∙ s) ∙ ap (λ (k : List ℕ). kept_all k l) (put_means h b s)

pub put_all_size : (h : Held) (l : List ℕ) → length (put_all h l).bytes ≡ length h.bytes
unfolding put_all
put_all_size h [] = refl
put_all_size h (b ∷ l) = put_all_size (put h b) l ∙ put_size h b

-- ---- a line at its end: nothing is held before it, or some bytes

pub ended_whole : (h : Held) (l : List ℕ) → h.count ≡ 0 → ended_line h l ≡ l
unfolding ended_line
ended_whole h l e = rw (ended_line, eq-eqb h.count 0 e)

pub ended_rest : (h : Held) (l : List ℕ) → h.count ≢ 0 → ended_line h l ≡ present_line (put_all h l)
unfolding ended_line
ended_rest h l n = rw (ended_line, ne_eqb h.count 0 n)

pub after_whole : (h : Held) (l : List ℕ) → h.count ≡ 0 → held_after h l ≡ h
unfolding held_after
after_whole h l e = rw (held_after, eq-eqb h.count 0 e)

pub after_rest : (h : Held) (l : List ℕ) → h.count ≢ 0 → held_after h l ≡ held (put_all h l).bytes 0
unfolding held_after
after_rest h l n = rw (held_after, ne_eqb h.count 0 n)
