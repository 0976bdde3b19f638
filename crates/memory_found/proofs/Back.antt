-- What was put is read back.
use mathlib.Core.Path.{◌≡◌, refl}
use mathlib.Core.List.{List, [], ◌∷◌, ◌++◌, append_assoc}
use Prim.Native.Nat.{ℕ, ◌≤◌, min}
use native.Mathlib.Omega.{arith}
use lib.ListN.{length, drop, length-append, length-drop}
use lib.Seq.{take-append_seam, drop-append_seam}
use Rattle.memory_found.specs.Found.{most_items, items_form, found_form, items_in, found_in, put_found}

-- whatever stands behind them
items_back : (l : List (List ℕ)) (r : List ℕ) → items_in (length l) (items_form l ++ r) ≡ l
unfolding items_in items_form
items_back [] r = refl
items_back (x ∷ l) r =
    rw (append_assoc x (items_form l) r, take-append_seam x (items_form l ++ r), drop-append_seam x (items_form l ++ r), items_back l r)

-- as many items as there may be, of any lengths, come back from any array
pub found_back : (b : List ℕ) (l : List (List ℕ)) → length l ≤ most_items → found_in (put_found b l) ≡ l
unfolding found_in put_found found_form
found_back b l h =
    let e : min most_items (length l) ≡ length l = omega arith in
    rw e (items_back l (drop (length (found_form l)) b))

-- the array stays as long as it was where the items fit
pub length_put : (b : List ℕ) (l : List (List ℕ)) → length (found_form l) ≤ length b → length (put_found b l) ≡ length b
unfolding put_found
length_put b l h = rw (length-append, length-drop) (omega arith)
