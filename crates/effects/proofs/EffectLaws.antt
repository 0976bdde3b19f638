-- What a change of a decoded table leaves to do.
use Rattle.std.proofs.Common.{◌≡◌, List, ℕ, sym, ap, ◌∙◌, refl}
use Rattle.std.specs.Prelude.{Result, Ok, Err}
use Rattle.std.proofs.Math.Option.{Option, none, some}
use Rattle.entries.specs.declared.Decoded.{Decoded}
use Rattle.entries.specs.declared.Full.{Full}
use Rattle.entries.specs.Entries.{Entry, stored}
use Rattle.entries.specs.Decoded.{table_in}
use Rattle.entries.specs.Places.{stored_in}
use Rattle.model.specs.Calls.{Effect, answers, writes, full, setting}

abbrev settled : Option (List Entry) → Effect
settled (some u) = writes u
settled none = answers full

-- `set K V` by whether there was room for the change
abbrev pub SettingOf : List ℕ → Option (List ℕ) → Decoded → Result Decoded Full → Type 0
SettingOf k v t (Ok u) = setting k v (table_in t) ≡ writes (table_in u)
SettingOf k v t (Err e) = setting k v (table_in t) ≡ answers full

pub setting_of : (k : List ℕ) (v : Option (List ℕ)) (t : Decoded) (r : Result Decoded Full) → stored_in r ≡ stored 4 k v (table_in t) → SettingOf k v t r
unfolding setting
setting_of k v t (Ok u) e = ap settled (sym e)
setting_of k v t (Err f) e = ap settled (sym e)
