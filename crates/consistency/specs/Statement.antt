-- Demand 3: for every script, broken off after any line, each bucket has one order of its calls that one plain table
-- answers as printed. This file is the whole statement, `OneOrder`; its proof is `one_order_for_every_script` in
-- Theorem.antt. A script is any list of lines, and a line any list of bytes. Of the machine it uses `parse`, which reads
-- a line; `bucket_for`, the bucket of a call; `outcomes` from the state with nothing in it, which gives for each line the
-- number it was refused with or the answers it printed; and the types of lines, words, results and outcomes. Of its
-- tables only `Entry`, a key with its value: no function on them.
use Rattle.std.specs.Prelude.{◌≡◌, Bool, true, false, ◌&&◌, ◌||◌, ℕ, ◌+◌, ◌<◌, eqb, ltb, length}
use mathlib.Core.List.{List, [], ◌∷◌, ◌++◌, map, Memᴰ}
use Rattle.std.proofs.Math.Option.{Option, none, some}
use Rattle.entries.specs.Entries.{Entry, entry}
use Rattle.model.specs.Calls.{Words, get, set, setif, del, keys, bucket_for}
use Rattle.model.specs.Calls.{Result, value, listed, done, mismatch, full, notdone, unknown}
use Rattle.model.specs.Lines.{Line, cluster, elect, call, deliver, copy, lose, timeout, stop, cut, start}
use Rattle.model.specs.Lines.{Outcome, refusal, printed, initial_state}
use Rattle.model.specs.Parse.{parse}
use Rattle.model.specs.Run.{outcomes}

infix 4 ◌∈◌
abbrev pub ◌∈◌ : {A : Type 0} → A → List A → Type 0
a ∈ l = Memᴰ a l

-- ---- the plain table (RULES, Plain table): entries in any order, one for each
-- key, at first none

-- whether two lists have the same bytes
unfoldable pub same : List ℕ → List ℕ → Bool
same [] [] = true
same [] (b ∷ m) = false
same (a ∷ l) [] = false
same (a ∷ l) (b ∷ m) = eqb a b && same l m

-- K's value, none where K is absent
unfoldable pub lookup : List ℕ → List Entry → Option (List ℕ)
lookup k [] = none
lookup k (e ∷ t) = elim (same k e.key) [ true ↦ some e.value | false ↦ lookup k t ]

-- whether two values are the same; an absent one is the same as an absent one alone
unfoldable pub alike : Option (List ℕ) → Option (List ℕ) → Bool
alike none none = true
alike none (some v) = false
alike (some u) none = false
alike (some u) (some v) = same u v

-- whether K stands there
unfoldable pub stands : List ℕ → List Entry → Bool
stands k [] = false
stands k (e ∷ t) = same k e.key || stands k t

-- all entries but K's
unfoldable pub without : List ℕ → List Entry → List Entry
without k [] = []
without k (e ∷ t) = elim (same k e.key) [ true ↦ without k t | false ↦ e ∷ without k t ]

-- whether one list stands after another: its first byte that differs is greater, or it is an extension
unfoldable pub after : List ℕ → List ℕ → Bool
after [] m = false
after (a ∷ l) [] = true
after (a ∷ l) (b ∷ m) = ltb b a || (eqb a b && after l m)

-- all keys, rising: each is placed in front of the first that it does not stand after
unfoldable pub place : List ℕ → List (List ℕ) → List (List ℕ)
place k [] = k ∷ []
place k (j ∷ l) = elim (after k j) [ true ↦ j ∷ place k l | false ↦ k ∷ (j ∷ l) ]

unfoldable pub all_keys : List Entry → List (List ℕ)
all_keys [] = []
all_keys (e ∷ t) = place e.key (all_keys t)

-- what the table holds after a call, and what it answers
pub record Reply : Type 0 where
  pub table : List Entry
  pub result : Result

abbrev pub reply : List Entry → Result → Reply
reply t r = record { table = t; result = r }

-- `set K V`: an absent value takes K away; K has the value if K stands there or fewer than four keys do; else the table stays
unfoldable pub plain_set : List ℕ → Option (List ℕ) → List Entry → Reply
plain_set k none t = reply (without k t) done
plain_set k (some v) t =
    elim (stands k t || ltb (length t) 4) [
      | true ↦ reply (entry k v ∷ without k t) done
      | false ↦ reply t full
    ]

unfoldable pub plain : Words → List Entry → Reply
plain (get k) t = reply t (value (lookup k t))
plain (keys b) t = reply t (listed (all_keys t))
plain (set k v) t = plain_set k v t
plain (setif k e v) t = elim (alike (lookup k t) e) [ true ↦ plain_set k v t | false ↦ reply t mismatch ]
plain (del k) t = plain_set k none t

-- ---- what is read off a script

-- an accepted call: its number, words and bucket, and the line it began with
pub record Begin : Type 0 where
  pub number : ℕ
  pub words : Words
  pub bucket : ℕ
  pub line : ℕ

-- a printed answer: the call's number, the result, and the line that printed it
pub record End : Type 0 where
  pub number : ℕ
  pub result : Result
  pub line : ℕ

-- what an accepted line means to the calls: the cluster line says how many buckets there are, a call is one more
pub data Meaning : Type 0 where
  buckets : ℕ → Meaning
  calling : Words → Meaning
  other : Meaning

unfoldable pub meaning : Option Line → Meaning
meaning none = other
meaning (some (cluster n b)) = buckets b
meaning (some (elect s)) = other
meaning (some (call s w)) = calling w
meaning (some (deliver i)) = other
meaning (some (copy i)) = other
meaning (some (lose i)) = other
meaning (some (timeout s b)) = other
meaning (some (stop s)) = other
meaning (some (cut i k)) = other
meaning (some (start s)) = other

-- the accepted calls, numbered from 1 in the order of their lines: `line` is the number of the first line, `count` the
-- calls before it, `b` the buckets of the cluster
unfoldable pub begins_from : ℕ → ℕ → ℕ → List (List ℕ) → List Outcome → List Begin
begins_from line count b [] os = []
begins_from line count b (l ∷ ls) [] = []
begins_from line count b (l ∷ ls) (refusal r ∷ os) = begins_from (line + 1) count b ls os
begins_from line count b (l ∷ ls) (printed out ∷ os) =
    elim (meaning (parse l)) [
      | buckets k ↦ begins_from (line + 1) count k ls os
      | calling w ↦
          record { number = count + 1; words = w; bucket = bucket_for b w; line = line }
          ∷ begins_from (line + 1) (count + 1) b ls os
      | other ↦ begins_from (line + 1) count b ls os
    ]

-- the printed answers
unfoldable pub ends_from : ℕ → List Outcome → List End
ends_from line [] = []
ends_from line (refusal r ∷ os) = ends_from (line + 1) os
ends_from line (printed out ∷ os) =
    map (λ a. record { number = a.call; result = a.result; line = line }) out
    ++ ends_from (line + 1) os

-- lines are counted from 1
abbrev pub begins : List (List ℕ) → List Begin
begins ls = begins_from 1 0 0 ls (outcomes initial_state ls)

abbrev pub ends : List (List ℕ) → List End
ends ls = ends_from 1 (outcomes initial_state ls)

-- ---- one order

-- no number stands twice
abbrev pub Distinct : List ℕ → Type 0
Distinct [] = Unit {0}
Distinct (i ∷ l) = (i ∈ l → ⊥) × Distinct l

-- i stands before j
abbrev pub Before : ℕ → ℕ → List ℕ → Type 0
Before i j l = (k : List ℕ) × (m : List ℕ) × (k ++ (i ∷ m) ≡ l) × (j ∈ m)

-- a plain table that holds t is fed the calls one after another: each that ended, but as `unknown`, ended with the very
-- result that the table gives; calls that ended as `unknown` or never ended have their effect, and their result is not
-- compared
abbrev pub Fed : List Begin → List End → List Entry → List ℕ → Type 0
Fed bs es t [] = Unit {0}
Fed bs es t (i ∷ l) =
    (x : Begin)
    × (x ∈ bs)
    × (x.number ≡ i)
    × ((y : End) → y ∈ es → y.number ≡ i → (y.result ≡ unknown → ⊥) → (plain x.words t).result ≡ y.result)
    × Fed bs es (plain x.words t).table l

-- an order of the calls of bucket b
pub record OneOrder (bs : List Begin) (es : List End) (b : ℕ) : Type 0 where
  pub order : List ℕ
  -- no call stands twice; each is a call of that bucket, and none ended as `notdone`
  pub once : Distinct order
  pub calls : (i : ℕ) → i ∈ order → (x : Begin) × (x ∈ bs) × (x.number ≡ i) × (x.bucket ≡ b)
  pub no_notdone : (i : ℕ) → i ∈ order → (y : End) → y ∈ es → y.number ≡ i → y.result ≡ notdone → ⊥
  -- every call of that bucket that ended with another result than `unknown` and `notdone` stands in it
  pub complete :
      (x : Begin) → x ∈ bs → x.bucket ≡ b → (y : End) → y ∈ es → y.number ≡ x.number →
      (y.result ≡ unknown → ⊥) → (y.result ≡ notdone → ⊥) → x.number ∈ order
  -- a call that ended in a line before the one in which another began stands before it
  pub in_real_time :
      (i j : ℕ) → i ∈ order → j ∈ order → (y : End) → y ∈ es → y.number ≡ i → (x : Begin) → x ∈ bs → x.number ≡ j →
      y.line < x.line → Before i j order
  -- the plain table, empty at first, gives exactly what was printed
  pub answered : Fed bs es [] order
