-- Laws of a call's first round. On a recovered bucket a call that writes opens its own write at once, and one that does not opens the
-- checking round; on any other bucket every call reads. The proofs of `limits`, `consistency` and `quiet` go by `first_round`.
use mathlib.Core.Path.{◌≡◌, refl, ap, ◌∙◌}
use mathlib.Core.List.{List}
use mathlib.Core.Bool.{Bool, true, false}
use mathlib.Core.Option.{Option, none, some}
use Prim.Native.Nat.{ℕ, ◌<◌}
use native.Mathlib.Omega.{arith}
use lib.ListN.{length}
use lib.Seq.{get_or-set_same}
use Rattle.entries.specs.Entries.{Entry, value_of, remove, stored}
use Rattle.table.specs.Form.{same_value}
use Rattle.model.specs.Measures.{max_entries}
use Rattle.model.specs.Calls.{Words, set, setif, del, Result, done, mismatch, full, Effect, answers, writes, effect_writes, setting, effect}
use Rattle.model.specs.Cluster.{copy_of, copy_at, own_write, Call, call_at, Server}
use Rattle.model.specs.Replica.{writing}
use Rattle.model.specs.Leader.{Reaction, is_own, one_more, opening, open_round, finish, next_version, applying, checking, recovered, start_read, straight, start_call}

-- what is written is the effect
pub written_effect : (f : Effect) (t : List Entry) → effect_writes f ≡ some t → f ≡ writes t
unfolding effect_writes
written_effect (answers r) t e = let z : ◌≡◌ {A = ℕ} 0 1 = cc in absurd (omega arith)
written_effect (writes u) t e = let same : u ≡ t = cc in ap writes same

-- the own write of table t, under the next version
abbrev pub own_write_of : ℕ → ℕ → ℕ → List Entry → Server → Reaction
own_write_of n me b t s = open_round n me b own_write (writing (copy_of (next_version b s) t)) (finish b done) s

module _ (n me b : ℕ) (words : Words) (s : Server) where
  -- whether the bucket is recovered, and what the call does to the table of the leader's copy
  abbrev is_recovered : Bool
  is_recovered = recovered s.stored.number (copy_at s.stored b)

  abbrev does : Effect
  does = effect words (copy_at s.stored b).table

  pub writes_at_once : (t : List Entry) → is_recovered ≡ true → does ≡ writes t → start_call n me b words s ≡ own_write_of n me b t s
  unfolding start_call straight effect_writes applying
  writes_at_once t e w = rw (start_call, straight, e, w)

  pub unrecovered_reads : is_recovered ≡ false → start_call n me b words s ≡ start_read n me b s
  unfolding start_call straight
  unrecovered_reads e = rw (start_call, straight, e)

  answers_reads : (r : Result) → does ≡ answers r → start_call n me b words s ≡ start_read n me b s
  unfolding start_call straight effect_writes
  answers_reads r w = go is_recovered refl
    where
      go : (z : Bool) → is_recovered ≡ z → start_call n me b words s ≡ start_read n me b s
      go true e = rw (start_call, straight, e, w)
      go false e = unrecovered_reads e

  pub checks_first : (r : Result) → is_recovered ≡ true → does ≡ answers r → start_call n me b words s ≡ checking n me b s
  unfolding start_read
  checks_first r e w = answers_reads r w ∙ rw (start_read, e)

  -- what holds of an own write on a recovered bucket, and of READ, holds of a call's first round
  pub first_round : (P : Reaction → Type 0) → ((t : List Entry) → is_recovered ≡ true → does ≡ writes t → P (applying n me b (writes t) s))
      → P (start_read n me b s) → P (start_call n me b words s)
  unfolding applying
  first_round P at_once reads = go is_recovered refl does refl
    where
      go : (z : Bool) → is_recovered ≡ z → (f : Effect) → does ≡ f → P (start_call n me b words s)
      go true e (writes t) w = rw (writes_at_once t e w) (at_once t e w)
      go true e (answers r) w = rw (answers_reads r w) reads
      go false e f w = rw (unrecovered_reads e) reads

-- ---- call by call (RULES, Calls 3), on a recovered bucket whose table in the leader's copy is `table`

module _ (n me b : ℕ) (s : Server) (so : recovered s.stored.number (copy_at s.stored b) ≡ true) where
  abbrev table : List Entry
  table = (copy_at s.stored b).table

  pub set_at_once : (k : List ℕ) (v : Option (List ℕ)) (t : List Entry) → stored max_entries k v table ≡ some t → start_call n me b (set k v) s ≡ own_write_of n me b t s
  unfolding effect setting
  set_at_once k v t e = writes_at_once n me b (set k v) s t so (rw (setting, e))

  pub del_at_once : (k : List ℕ) → start_call n me b (del k) s ≡ own_write_of n me b (remove k table) s
  unfolding effect setting stored
  del_at_once k = writes_at_once n me b (del k) s (remove k table) so refl

  pub setif_at_once : (k : List ℕ) (e v : Option (List ℕ)) (t : List Entry) → same_value (value_of k table) e ≡ true → stored max_entries k v table ≡ some t
      → start_call n me b (setif k e v) s ≡ own_write_of n me b t s
  unfolding effect setting
  setif_at_once k e v t same h = writes_at_once n me b (setif k e v) s t so (rw (effect, same, setting, h))

  pub full_checks : (k : List ℕ) (v : Option (List ℕ)) → stored max_entries k v table ≡ none → start_call n me b (set k v) s ≡ checking n me b s
  unfolding effect setting
  full_checks k v e = checks_first n me b (set k v) s full so (rw (setting, e))

  pub setif_full_checks : (k : List ℕ) (e v : Option (List ℕ)) → same_value (value_of k table) e ≡ true → stored max_entries k v table ≡ none
      → start_call n me b (setif k e v) s ≡ checking n me b s
  unfolding effect setting
  setif_full_checks k e v same h = checks_first n me b (setif k e v) s full so (rw (effect, same, setting, h))

  -- whatever room there is
  pub mismatch_checks : (k : List ℕ) (e v : Option (List ℕ)) → same_value (value_of k table) e ≡ false → start_call n me b (setif k e v) s ≡ checking n me b s
  unfolding effect
  mismatch_checks k e v other = checks_first n me b (setif k e v) s mismatch so (rw (effect, other))

-- ---- the count

-- once its own write is opened as its first round, a call has 1 round and counts as sent: of such a call `ended` makes `unknown 1`
pub sent_in_one_round : (n me b : ℕ) (s : Server) (t : List Entry) (c : Call) → b < length s.volatile.calls → call_at s.volatile b ≡ some c
    → c.rounds ≡ 0
    → call_at (opening n me b own_write (writing (copy_of (next_version b s) t)) s).volatile b ≡ some (record { number = c.number; words = c.words; rounds = 1; sent = true })
unfolding opening is_own one_more
sent_in_one_round n me b s t c there taken first = get_or-set_same s.volatile.calls b _ none there ∙ rw (taken, first)
