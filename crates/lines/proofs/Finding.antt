-- Bytes of the input up to a line feed.
use mathlib.Core.Path.{◌≡◌, sym, ap, subst, ◌∙◌}
use mathlib.Core.Bool.{Bool, false}
use mathlib.Core.List.{List, [], ◌∷◌, ◌++◌}
use Prim.Native.Nat.{ℕ, zero, suc, ◌+◌, ◌-◌, ◌≤◌, ◌<◌}
use native.Mathlib.Omega.{arith}
use lib.Dec.{eqb}
use lib.ListN.{length, take, drop, get_or, length-drop}
use lib.Seq.{take-add, take_all, get_or-take, get_or-drop, length-take-le}
use Rattle.std.specs.Prelude.{Some, None, position}
use Rattle.input.specs.Reading.{NoFeed}
use Rattle.parse_deliver.specs.Deliver.{between}
use Rattle.parse_deliver.proofs.Delivering.{first_feed, feed_place, none_before, there, no_feed_there}
use Rattle.lines.specs.Lines.{Plain, FeedAt}

-- the bytes before `to` are those before `from` and those from there on
pub take_between : (l : List ℕ) (from to : ℕ) → from ≤ to → take to l ≡ take from l ++ between l from to
take_between l from to h =
    let e : from + (to - from) ≡ to = omega arith in
    subst (λ (n : ℕ). take n l ≡ take from l ++ between l from to) e (take-add from (to - from) l)

-- the slice from `from` on is all that lies there
pub rest_whole : (input : List ℕ) (from : ℕ) → take (length input - from) (drop from input) ≡ drop from input
rest_whole input from = take_all (length input - from) (drop from input) (omega (arith, length-drop from input))

-- what the search from `from` on found
pub feed_found : (input : List ℕ) (from : ℕ) {i : ℕ} → from ≤ length input → Some i ≡ position (λ b. eqb b 10) (drop from input) → i < length (drop from input) → FeedAt input from (from + i)
feed_found input from {i} h e w =
    let f : first_feed (drop from input) ≡ i = feed_place (drop from input) e in
    let k : from + i - from ≡ i = omega arith in
    record {
      bytes = record { onward = omega arith; within = omega (arith, length-drop from input); plain = rw (k, ← f) (none_before (drop from input)) };
      stops = λ z. sym (get_or-drop from input i 0) ∙ (rw f at (there (drop from input) (rw f w)));
    }

pub feed_missing : (input : List ℕ) (from : ℕ) → from ≤ length input → None ≡ position (λ b. eqb b 10) (drop from input) → FeedAt input from (length input)
feed_missing input from h e =
    let n : length input - from ≡ length (drop from input) = sym (length-drop from input) in
    record {
      bytes = record { onward = h; within = omega arith; plain = rw (n, take_all (length (drop from input)) (drop from input) (omega arith)) (no_feed_there (drop from input) e) };
      stops = λ z. absurd (omega arith);
    }

no_feed_at : (l : List ℕ) (i : ℕ) → i < length l → NoFeed l → eqb (get_or l i 0) 10 ≡ false
no_feed_at [] i w n = absurd (omega arith)
no_feed_at (b ∷ l) zero w n = n.0
no_feed_at (b ∷ l) (suc i) w n = no_feed_at l i (omega arith) n.1

-- where there is no line feed, none is found
pub none_found : {A : Type 0} (input : List ℕ) (from i : ℕ) → Plain input from (length input) → from ≤ i → i < length input → get_or input i 0 ≡ 10 → A
none_found input from i p o w e =
    let d : length (drop from input) ≡ length input - from = length-drop from input in
    let k : from + (i - from) ≡ i = omega arith in
    let n : eqb (get_or (between input from (length input)) (i - from) 0) 10 ≡ false =
    no_feed_at (between input from (length input)) (i - from) (omega (arith, length-take-le (length input - from) (drop from input) (omega arith))) p.plain in
    let b : get_or (between input from (length input)) (i - from) 0 ≡ 10 =
    get_or-take (length input - from) (drop from input) (i - from) 0 (omega arith) ∙ get_or-drop from input (i - from) 0 ∙ ap (λ (j : ℕ). get_or input j 0) k ∙ e in
    let z : ◌≡◌ {A = Bool} (eqb 10 10) false = subst (λ (x : ℕ). eqb x 10 ≡ false) b n in
    let y : ◌≡◌ {A = ℕ} 0 1 = cc in
    absurd (omega arith)
