-- Bytes with zeros behind them: by their places, and what is read back of them.
use mathlib.Core.Path.{◌≡◌, refl, ap, ◌∙◌}
use mathlib.Core.List.{List, [], ◌∷◌, map}
use Prim.Native.Nat.{ℕ, zero, suc, ◌+◌}
use native.Mathlib.Numerals.{add-one}
use lib.ListN.{length, take, get_or}
use Rattle.std.specs.List.{range_with_len}
use Rattle.parse.specs.Kept.{padded}

nothing_behind : (n i : ℕ) → map (λ k. get_or [] k 0) (range_with_len i n) ≡ padded n []
unfolding padded
nothing_behind zero i = refl
nothing_behind (suc n) i = ap (λ k. 0 ∷ k) (nothing_behind n (i + 1))

one_later : (n i : ℕ) (b : ℕ) (l : List ℕ) → map (λ k. get_or (b ∷ l) k 0) (range_with_len (i + 1) n) ≡ map (λ k. get_or l k 0) (range_with_len i n)
one_later zero i b l = refl
one_later (suc n) i b l = rw (add-one i) (ap (λ k. get_or l i 0 ∷ k) (rw (← add-one i) (one_later n (i + 1) b l)))

-- byte by byte
pub padded_places : (n : ℕ) (l : List ℕ) → map (λ k. get_or l k 0) (range_with_len 0 n) ≡ padded n l
unfolding padded
padded_places zero l = refl
padded_places (suc n) [] = ap (λ k. 0 ∷ k) (nothing_behind n 1)
padded_places (suc n) (b ∷ l) = ap (λ k. b ∷ k) (one_later n 0 b l ∙ padded_places n l)

-- as many as there were are those that found room
pub padded_back : (n : ℕ) (l : List ℕ) → take (length l) (padded n l) ≡ take n l
unfolding padded
padded_back zero [] = refl
padded_back zero (b ∷ l) = refl
padded_back (suc n) [] = refl
padded_back (suc n) (b ∷ l) = ap (λ k. b ∷ k) (padded_back n l)
