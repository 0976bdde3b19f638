-- What is read of bytes, as the tests on the way say.
use mathlib.Core.Path.{◌≡◌, refl, sym, ap, ◌∙◌}
use mathlib.Core.List.{List, [], ◌∷◌}
use mathlib.Core.Bool.{Bool, true, false}
use mathlib.Core.Option.{none, some}
use Prim.Native.Nat.{ℕ, zero, suc, ◌+◌, ◌-◌, ◌≤◌}
use native.Mathlib.Omega.{arith}
use lib.Dec.{eqb}
use lib.ListN.{length, get_or, take, drop, length-drop, drop_of_length-le}
use lib.Seq.{drop-cons, take_all}
use borrow.Author.Tests.{eq-eqb, ne_eqb}
use Rattle.entries.specs.Entries.{Entry}
use Rattle.table.specs.Form.{within, read_bucket}
use Rattle.fields.specs.Form.{Datagram, version, carries, length_of, well_formed, headed, version_in, taken, refused, checked, read_datagram}
use Rattle.fields.proofs.Rules.{plain_length, full_length}

-- ---- fields

-- n elements from `at` on, one by one
abbrev pub cells : ℕ → ℕ → List ℕ → List ℕ
cells zero at l = []
cells (suc n) at l = get_or l at 0 ∷ cells n (suc at) l

pub take_cells : (n at : ℕ) (l : List ℕ) → at + n ≤ length l → take n (drop at l) ≡ cells n at l
take_cells zero at l h = refl
take_cells (suc n) at l h = rw (drop-cons l at 0 (omega arith)) (ap (λ r. get_or l at 0 ∷ r) (take_cells n (suc at) l (omega arith)))

-- the part from n on has all elements there are
pub tail_part : (n : ℕ) (l : List ℕ) → take (length l - n) (drop n l) ≡ drop n l
tail_part n l = take_all (length l - n) (drop n l) (rw (length-drop n l) (omega arith))

pub past_tail : (n : ℕ) (l : List ℕ) → drop (length l - n) (drop n l) ≡ []
past_tail n l = drop_of_length-le (drop n l) {i = length l - n} (rw (length-drop n l) (omega arith))

-- ---- the reader's way

pub read_nothing : (b : List ℕ) → length b ≡ 0 → read_datagram b ≡ refused 14
unfolding carries length_of read_datagram
read_nothing [] h = refl
read_nothing (x ∷ b) h = absurd (omega arith)

module _ (b : List ℕ) where
  pub other_length : (length b ≡ length_of (get_or b 0 0) → ⊥) → read_datagram b ≡ refused 14
  unfolding read_datagram
  other_length h = rw (read_datagram, ne_eqb (length b) (length_of (get_or b 0 0)) h)

  module _ (c : carries (get_or b 0 0) ≡ false) where
    pub read_plain_other : (length b ≡ 10 → ⊥) → read_datagram b ≡ refused 14
    read_plain_other h = other_length (λ e. h (e ∙ plain_length (get_or b 0 0) c))

    pub read_plain : length b ≡ 10 → read_datagram b ≡ checked (headed b (version 0 0) [])
    unfolding read_datagram
    read_plain h = rw (read_datagram, eq-eqb (length b) (length_of (get_or b 0 0)) (h ∙ sym (plain_length (get_or b 0 0) c)), c)

    -- none of the nine kinds
    pub read_unknown : within 9 (get_or b 0 0) ≡ false → read_datagram b ≡ refused 14
    unfolding read_datagram checked well_formed headed
    read_unknown h = go (eqb (length b) (length_of (get_or b 0 0))) refl
      where
        go : (p : Bool) → eqb (length b) (length_of (get_or b 0 0)) ≡ p → read_datagram b ≡ refused 14
        go true p = rw (read_datagram, p, c, checked, well_formed, h)
        go false p = rw (read_datagram, p)

  module _ (c : carries (get_or b 0 0) ≡ true) where
    pub read_full_other : (length b ≡ 129 → ⊥) → read_datagram b ≡ refused 14
    read_full_other h = other_length (λ e. h (e ∙ full_length (get_or b 0 0) c))

    pub read_full_refused : length b ≡ 129 → read_bucket 4 16 (drop 16 b) ≡ none → read_datagram b ≡ refused 13
    unfolding read_datagram
    read_full_refused h r = rw (read_datagram, eq-eqb (length b) (length_of (get_or b 0 0)) (h ∙ sym (full_length (get_or b 0 0) c)), c, r)

    pub read_full : (t : List Entry) → length b ≡ 129 → read_bucket 4 16 (drop 16 b) ≡ some t → read_datagram b ≡ checked (headed b (version_in b) t)
    unfolding read_datagram
    read_full t h r = rw (read_datagram, eq-eqb (length b) (length_of (get_or b 0 0)) (h ∙ sym (full_length (get_or b 0 0) c)), c, r)

pub checked_right : (d : Datagram) → well_formed d ≡ true → checked d ≡ taken d
unfolding checked
checked_right d h = rw (checked, h)

pub checked_wrong : (d : Datagram) → well_formed d ≡ false → checked d ≡ refused 14
unfolding checked
checked_wrong d h = rw (checked, h)
