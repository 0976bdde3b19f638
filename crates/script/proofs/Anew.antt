-- What the arrays hold behind a struct is what they hold where they are lent one by one.
use Rattle.std.proofs.Common.{◌≡◌, ℕ, List}
use Rattle.runs.specs.declared.Tally.{Tally}
use Rattle.script.specs.Each.{PartFed}

pub fed_anew : {counts heads slots copies working texts queue payloads answers reader line : List ℕ} {t : Tally} {input out : List ℕ} {counts' heads' slots' copies' working' texts' queue' payloads' answers' reader' line' : List ℕ} {counts'' heads'' slots'' copies'' working'' texts'' queue'' payloads'' answers'' : List ℕ} {t' : Tally} {out' : List ℕ} {taken : ℕ} → PartFed counts heads slots copies working texts queue payloads answers reader line t input out counts' heads' slots' copies' working' texts' queue' payloads' answers' reader' line' t' out' taken → counts' ≡ counts'' → heads' ≡ heads'' → slots' ≡ slots'' → copies' ≡ copies'' → working' ≡ working'' → texts' ≡ texts'' → queue' ≡ queue'' → payloads' ≡ payloads'' → answers' ≡ answers'' → PartFed counts heads slots copies working texts queue payloads answers reader line t input out counts'' heads'' slots'' copies'' working'' texts'' queue'' payloads'' answers'' reader' line' t' out' taken
fed_anew p e1 e2 e3 e4 e5 e6 e7 e8 e9 = rw (← e1, ← e2, ← e3, ← e4, ← e5, ← e6, ← e7, ← e8, ← e9) p
