-- One law for every store and one for every reading, for every list of sizes: a store in region r is that region's own, and the others stay;
-- what is read of a region is read of the list at the region's start. The stores ask nothing of the list's length.
use mathlib.Core.Path.{◌≡◌, refl, sym, ap, ◌∙◌}
use mathlib.Core.List.{List, [], ◌∷◌, ◌++◌, append_assoc, flatten}
use Prim.Native.Nat.{ℕ, zero, suc, ◌+◌, ◌-◌, ◌≤◌, ◌<◌}
use native.Mathlib.Nat.{zero-add, suc-add}
use native.Mathlib.Omega.{arith}
use lib.ListN.{length, get_or, set, take, drop, length-drop, take-append-drop}
use lib.Seq.{sets, sets-eq, paste, take-set-lt, take-set-le, drop-set-lt, drop-set-add, get_or-take, get_or-drop, take-nil, take-take, drop-drop, length-take-le}
use Rattle.memory_regions.specs.Cuts.{cut, region, start, size}
use Rattle.memory.specs.Rows.{row, put_row}

module _ {A : Type 0} where
  -- ---- a run of stores, in front of a place and behind it

  take_sets_lt : (n : ℕ) (vs l : List A) (p : ℕ) → p + length vs ≤ n → take n (sets l p vs) ≡ sets (take n l) p vs
  take_sets_lt n [] l p h = refl
  take_sets_lt n (v ∷ vs) l p h = take_sets_lt n vs (set l p v) (suc p) (omega arith) ∙ ap (λ r. sets r (suc p) vs) (take-set-lt n l p v (omega arith))

  drop_sets_lt : (n : ℕ) (vs l : List A) (p : ℕ) → p + length vs ≤ n → drop n (sets l p vs) ≡ drop n l
  drop_sets_lt n [] l p h = refl
  drop_sets_lt n (v ∷ vs) l p h = drop_sets_lt n vs (set l p v) (suc p) (omega arith) ∙ drop-set-lt n l p v (omega arith)

  take_sets_le : (n : ℕ) (vs l : List A) (p : ℕ) → n ≤ p → take n (sets l p vs) ≡ take n l
  take_sets_le n [] l p h = refl
  take_sets_le n (v ∷ vs) l p h = take_sets_le n vs (set l p v) (suc p) (omega arith) ∙ take-set-le n l p v h

  drop_sets_add : (n : ℕ) (vs l : List A) (p : ℕ) → drop n (sets l (n + p) vs) ≡ sets (drop n l) p vs
  drop_sets_add n [] l p = refl
  drop_sets_add n (v ∷ vs) l p =
      let e : suc (n + p) ≡ n + suc p = omega arith in
      rw e (drop_sets_add n vs (set l (n + p) v) (suc p) ∙ ap (λ r. sets r (suc p) vs) (drop-set-add n l p v))

  -- ---- a store in region r

  pub cut_sets : (ns : List ℕ) (r p : ℕ) (vs l : List A) → r < length ns → p + length vs ≤ size ns r
      → cut ns (sets l (start ns r + p) vs) ≡ set (cut ns l) r (sets (region ns r l) p vs)
  unfolding region
  cut_sets [] r p vs l among fits = absurd (omega arith)
  cut_sets (n ∷ ns) zero p vs l among fits = rw (zero-add p, take_sets_lt n vs l p fits, drop_sets_lt n vs l p fits)
  cut_sets (n ∷ ns) (suc r) p vs l among fits =
      let e : n + start ns r + p ≡ n + (start ns r + p) = omega arith in
      rw (e, take_sets_le n vs l (n + (start ns r + p)) (omega arith), drop_sets_add n vs l (start ns r + p))
      (ap (λ x. take n l ∷ x) (cut_sets ns r p vs (drop n l) (omega arith) fits))

  -- ---- a part of region r is read

  pub drop-take_lem : (p n : ℕ) (l : List A) → drop p (take (p + n) l) ≡ take n (drop p l)
  drop-take_lem zero n l = rw zero-add
  drop-take_lem (suc p) n [] = rw (suc-add, take-nil)
  drop-take_lem (suc p) n (x ∷ l) = rw suc-add (drop-take_lem p n l)

  pub region_part : (ns : List ℕ) (r p m : ℕ) (l : List A) → r < length ns → p + m ≤ size ns r
      → take m (drop p (region ns r l)) ≡ take m (drop (start ns r + p) l)
  unfolding region
  region_part [] r p m l among fits = absurd (omega arith)
  region_part (n ∷ ns) zero p m l among fits =
      let e : n ≡ p + (n - p) = omega arith in
      rw (zero-add p) (ap (λ k. take m (drop p (take k l))) e ∙ rw (drop-take_lem p (n - p) l) (take-take m (n - p) (drop p l) (omega arith)))
  region_part (n ∷ ns) (suc r) p m l among fits =
      let e : n + start ns r + p ≡ n + (start ns r + p) = omega arith in
      rw e (region_part ns r p m (drop n l) (omega arith) fits ∙ rw drop-drop)

  pub region_at : (ns : List ℕ) (r i : ℕ) (l : List A) (z : A) → r < length ns → i < size ns r → get_or (region ns r l) i z ≡ get_or l (start ns r + i) z
  unfolding region
  region_at [] r i l z among fits = absurd (omega arith)
  region_at (n ∷ ns) zero i l z among fits = rw (zero-add i) (get_or-take n l i z fits)
  region_at (n ∷ ns) (suc r) i l z among fits =
      let e : n + start ns r + i ≡ n + (start ns r + i) = omega arith in
      rw e (region_at ns r i (drop n l) z (omega arith) fits ∙ get_or-drop n l (start ns r + i) z)

  pub length_region : (ns : List ℕ) (r : ℕ) (l : List A) → r < length ns → start ns r + size ns r ≤ length l → length (region ns r l) ≡ size ns r
  unfolding region
  length_region [] r l among fits = absurd (omega arith)
  length_region (n ∷ ns) zero l among fits = length-take-le n l (omega arith)
  length_region (n ∷ ns) (suc r) l among fits = length_region ns r (drop n l) (omega arith) (simp length-drop (omega arith))

  -- ---- other stores as runs of stores: a copy, and a region lent whole

  pub paste_sets : (l : List A) (p : ℕ) (v : List A) (m : ℕ) → p + m ≤ length l → m ≤ length v → paste l p v m ≡ sets l p (take m v)
  paste_sets l p v m fits has =
      let e : length (take m v) ≡ m = length-take-le m v has in
      sym (sets-eq (take m v) l p (rw e fits) ∙ ap (λ k. take p l ++ take m v ++ drop (p + k) l) e)

  pub lent_sets : (a n : ℕ) (l v : List A) → length v ≡ n → a + n ≤ length l → take a l ++ (v ++ drop n (drop a l)) ≡ sets l a v
  lent_sets a n l v long h = rw (drop-drop n a l, ← long, ← append_assoc (take a l) v (drop (a + length v) l)) (sym (sets-eq v l a (omega arith)))

  pub sets_whole : (l v : List A) → length v ≡ length l → sets l 0 v ≡ v
  sets_whole [] [] h = refl
  sets_whole [] (x ∷ v) h = absurd (omega arith)
  sets_whole (y ∷ l) [] h = absurd (omega arith)
  sets_whole (y ∷ l) (x ∷ v) h = sets_front x l v 0 ∙ ap (λ r. x ∷ r) (sets_whole l v (omega arith))
    where
      sets_front : (a : A) (m w : List A) (i : ℕ) → sets (a ∷ m) (suc i) w ≡ a ∷ sets m i w
      sets_front a m [] i = refl
      sets_front a m (b ∷ w) i = sets_front a (set m i b) w (suc i)

-- a copy into region r
pub cut_paste : {A : Type 0} (ns : List ℕ) (r p : ℕ) (v : List A) (m : ℕ) (l : List A) → r < length ns → p + m ≤ size ns r → m ≤ length v → start ns r + size ns r ≤ length l
    → cut ns (paste l (start ns r + p) v m) ≡ set (cut ns l) r (paste (region ns r l) p v m)
cut_paste ns r p v m l among inside has fits =
    let room : p + m ≤ length (region ns r l) = rw (length_region ns r l among fits) inside in
    let e : length (take m v) ≡ m = length-take-le m v has in
    rw (paste_sets l (start ns r + p) v m (omega arith) has, paste_sets (region ns r l) p v m room has) (cut_sets ns r p (take m v) l among (omega arith))

-- nothing of a list is left out, if the regions are as long as it
pub cut_whole : {A : Type 0} (ns : List ℕ) (l : List A) → length l ≡ start ns (length ns) → flatten (cut ns l) ≡ l
unfolding flatten
cut_whole [] [] h = refl
cut_whole [] (x ∷ l) h = absurd (omega arith)
cut_whole (n ∷ ns) l h = ap (λ r. take n l ++ r) (cut_whole ns (drop n l) (simp length-drop (omega arith))) ∙ take-append-drop n l

-- region r replaced whole
pub cut_lent : {A : Type 0} (ns : List ℕ) (r : ℕ) (v l : List A) → r < length ns → length v ≡ size ns r → start ns r + size ns r ≤ length l
    → cut ns (sets l (start ns r) v) ≡ set (cut ns l) r v
cut_lent ns r v l among whole fits =
    let e : start ns r + 0 ≡ start ns r = omega arith in
    rw (← e) (cut_sets ns r 0 v l among (omega arith) ∙ ap (λ x. set (cut ns l) r x) (sets_whole (region ns r l) v (whole ∙ sym (length_region ns r l among fits))))

-- ---- words one by one

put_row_sets : (vs l : List ℕ) (p o : ℕ) → put_row l p o vs ≡ sets l (p + o) vs
put_row_sets [] l p o = refl
put_row_sets (v ∷ vs) l p o =
    let e : p + (o + 1) ≡ suc (p + o) = omega arith in
    rw (← e) (put_row_sets vs (set l (p + o) v) p (o + 1))

pub region_row : (ns : List ℕ) (r m p o : ℕ) (l : List ℕ) → r < length ns → p + o + m ≤ size ns r → row p o m (region ns r l) ≡ row (start ns r + p) o m l
region_row ns r zero p o l among fits = refl
region_row ns r (suc m) p o l among fits =
    let e : start ns r + p + o ≡ start ns r + (p + o) = omega arith in
    rw (e, region_at ns r (p + o) l 0 among (omega arith)) (ap (λ x. get_or l (start ns r + (p + o)) 0 ∷ x) (region_row ns r m p (o + 1) l among (omega arith)))

pub cut_put_row : (ns : List ℕ) (r p o : ℕ) (vs l : List ℕ) → r < length ns → p + o + length vs ≤ size ns r
    → cut ns (put_row l (start ns r + p) o vs) ≡ set (cut ns l) r (put_row (region ns r l) p o vs)
cut_put_row ns r p o vs l among fits =
    let e : start ns r + p + o ≡ start ns r + (p + o) = omega arith in
    rw (put_row_sets vs l (start ns r + p) o, put_row_sets vs (region ns r l) p o, e) (cut_sets ns r (p + o) vs l among fits)
