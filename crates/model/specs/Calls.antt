-- The calls: their words, their results, and what a call does to its bucket's table.
use Rattle.std.specs.Prelude.{List, true, false, ℕ}
use Rattle.std.proofs.Math.Option.{Option, none, some}
use Rattle.hash.specs.Fnv.{bucket_of}
use Rattle.entries.specs.Entries.{Entry, value_of, stored, keys_of}
use Rattle.table.specs.Form.{same_value}
use Rattle.model.specs.Measures.{max_entries}

-- the words of a call, without the server: a key; for `keys` a bucket; for `setif` the expected value before the new one. A
-- value is none where the script has `-`
pub data Words : Type 0 where
  get : List ℕ → Words
  set : List ℕ → Option (List ℕ) → Words
  setif : List ℕ → Option (List ℕ) → Option (List ℕ) → Words
  del : List ℕ → Words
  keys : ℕ → Words

-- a call's bucket, of n: its key's, or the one named
unfoldable pub bucket_for : ℕ → Words → ℕ
bucket_for n (get k) = bucket_of n k
bucket_for n (set k v) = bucket_of n k
bucket_for n (setif k e v) = bucket_of n k
bucket_for n (del k) = bucket_of n k
bucket_for n (keys b) = b

-- the results (RULES, Output 3), with the data of `value` and `keys`
pub data Result : Type 0 where
  value : Option (List ℕ) → Result
  listed : List (List ℕ) → Result
  done : Result
  mismatch : Result
  full : Result
  notdone : Result
  unknown : Result

-- what is left to do once the table is read: nothing but to answer, or to write a new table and then answer `done`
pub data Effect : Type 0 where
  answers : Result → Effect
  writes : List Entry → Effect

-- the new table, if there is one to write
unfoldable pub effect_writes : Effect → Option (List Entry)
effect_writes (answers r) = none
effect_writes (writes t) = some t

-- `set K V`
unfoldable pub setting : List ℕ → Option (List ℕ) → List Entry → Effect
setting k v t = elim (stored max_entries k v t) [ some u ↦ writes u | none ↦ answers full ]

-- what a call does to its bucket's table; the expected value is looked at before `full`
unfoldable pub effect : Words → List Entry → Effect
effect (get k) t = answers (value (value_of k t))
effect (set k v) t = setting k v t
effect (setif k e v) t = elim (same_value (value_of k t) e) [ true ↦ setting k v t | false ↦ answers mismatch ]
effect (del k) t = setting k none t
effect (keys b) t = answers (listed (keys_of t))

-- an answer: the call's number, its result, and the number of rounds made for it
pub record Answer : Type 0 where
  pub call : ℕ
  pub result : Result
  pub rounds : ℕ
