-- Keys and values in a line: how they stand there by value, and what is read back from that. A key or value has its whole
-- length, and its first bytes up to the greatest length (RULES, Measures 2); zeros stand behind them.
use Rattle.std.specs.Prelude.{List, [], ◌∷◌, ◌++◌, ℕ, zero, suc, ◌-◌, length, replicate, Some, None}
use Rattle.std.proofs.Math.Option.{Option, none, some}
use Rattle.entries.specs.declared.Text.{Text}
use Rattle.entries.specs.Decoded.{Key, Value, Item, key_bytes, value_bytes}
use Rattle.model.specs.Measures.{max_key_bytes, max_value_bytes}

-- n bytes: the first of l, and zeros where l has no more
unfoldable pub padded : ℕ → List ℕ → List ℕ
padded zero l = []
padded (suc n) [] = 0 ∷ padded n []
padded (suc n) (b ∷ l) = b ∷ padded n l

unfoldable pub text_for : {room : ℕ} → List ℕ → Text room
text_for {room} l = record { bytes = padded room l; len = length l }

abbrev pub key_for : List ℕ → Key
key_for l = text_for l

abbrev pub value_for : List ℕ → Value
value_for l = text_for l

-- a value that may be absent
unfoldable pub item_for : Option (List ℕ) → Item
item_for none = None
item_for (some v) = Some (value_for v)

-- what a key or value by value stands for, where its length may be above its room: it is refused whatever its last bytes are
unfoldable pub key_in : Key → List ℕ
key_in k = key_bytes k ++ replicate (k.len - max_key_bytes) 0

unfoldable pub value_in : Value → List ℕ
value_in v = value_bytes v ++ replicate (v.len - max_value_bytes) 0

-- the same of a value that may be absent
unfoldable pub given_in : Item → Option (List ℕ)
given_in (Some v) = some (value_in v)
given_in None = none
