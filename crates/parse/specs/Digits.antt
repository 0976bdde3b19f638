-- What the readers answer: what the definitions read, or none; and the bytes that pairs of digits stand for.
use Rattle.std.specs.Prelude.{◌≡◌, Bool, true, false, List, [], ◌∷◌, ℕ, ◌≤◌, ◌+◌, ◌*◌, Option, None, Some}
use Rattle.std.proofs.Math.Option as M
use Rattle.table.specs.Form.{same_bytes}
use Rattle.model.specs.Text.{bytes}
use Rattle.model.specs.Parse.{hex_digit}

-- what was read, or none
abbrev pub optional : {A : Type 0} → M.Option A → Option A
optional M.none = None
optional (M.some a) = Some a

-- the same, as f makes it
abbrev pub optional_by : {A B : Type 0} → (A → B) → M.Option A → Option B
optional_by f M.none = None
optional_by f (M.some a) = Some (f a)

unfoldable pub present : {A : Type 0} → M.Option A → Bool
present M.none = false
present (M.some a) = true

-- the digit that a byte is, 0 for others
unfoldable pub nibble : ℕ → ℕ
nibble b = elim (hex_digit b) [ M.none ↦ 0 | M.some d ↦ d ]

-- the bytes that pairs of hexadecimal digits stand for; a last byte without a second counts for nothing
unfoldable pub pair_bytes : List ℕ → List ℕ
pair_bytes [] = []
pair_bytes (a ∷ []) = []
pair_bytes (a ∷ (b ∷ l)) = (nibble a * 16 + nibble b) ∷ pair_bytes l

-- the value that a word stands for: none for `-`; `.` has no pairs
unfoldable pub item_bytes : List ℕ → M.Option (List ℕ)
item_bytes l = elim (same_bytes l (bytes "-")) [ true ↦ M.none | false ↦ M.some (pair_bytes l) ]

-- the digit that b is, as r
pub record Nibble (b r : ℕ) : Type 0 where
  pub is : r ≡ nibble b
  pub low : r ≤ 15
