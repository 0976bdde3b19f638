-- Laws of lists that the loops lean on.
use mathlib.Core.Path.{◌≡◌, sym, ◌∙◌}
use mathlib.Core.List.{List, ◌++◌}
use Prim.Native.Nat.{ℕ, ◌≤◌, min}
use native.Mathlib.Omega.{arith}
use native.Mathlib.Decide.{dec_le}
use lib.ListN.{length, take, length-take}
use lib.Seq.{take_all, take_at}
use Rattle.entries.specs.Decoded.{Cut}

-- the length of what is taken of a full array
pub cut_length : {A : Type 0} (n top : ℕ) (l : List A) → length l ≡ top → Cut top (take n l) (min n top)
cut_length n top l h = record { is = rw length-take (omega arith); low = omega arith }

-- no more is taken than is there
pub take_min : {A : Type 0} (n : ℕ) (l : List A) → take (min n (length l)) l ≡ take n l
take_min n l = go (dec_le n (length l))
  where
    go : Dec (n ≤ length l) → take (min n (length l)) l ≡ take n l
    go (yes h) = let e : min n (length l) ≡ n = omega arith in rw e
    go (no h) = take_all (min n (length l)) l (omega arith) ∙ sym (take_all n l (omega arith))

-- as many as a part has, of the whole, are that part
pub take_as_many : {A : Type 0} (n k : ℕ) (l : List A) → n ≡ length (take k l) → take n l ≡ take k l
take_as_many n k l h = rw (h, length-take) (take_min k l)

pub as_many_within : {A : Type 0} (n k : ℕ) (l : List A) → n ≡ length (take k l) → n ≤ length l
as_many_within n k l h = omega (arith, length-take k l)

-- the first n of a list, n at most top of them, before others
pub take_copied : {A : Type 0} (top n : ℕ) (s front rest : List A) → n ≡ min (length s) top → front ≡ take n s → take n (front ++ rest) ≡ take top s
take_copied top n s front rest h e =
    let k : n ≡ min top (length s) = omega arith in
    take_at front rest n (rw (e, length-take) (omega arith)) ∙ e ∙ rw k (take_min top s)
