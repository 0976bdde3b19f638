-- The plans of specs/Plans.antt, from the arrays that each looks at.
use Rattle.std.specs.Prelude.{◌≡◌, ℕ, ◌≤◌, true, false, List, [], Result}
use Rattle.model.specs.Measures.{max_servers, max_buckets, max_messages}
use Rattle.model.specs.Calls as calls
use Rattle.server.specs.declared.Words.{Words}
use Rattle.server.specs.declared.Effect.{Effect}
use Rattle.server.specs.Views.{words_in}
use Rattle.memory.specs.declared.Counts.{Counts}
use Rattle.memory.specs.Layout.{slot_of, words_at}
use Rattle.refusals.specs.declared.Refusal.{Refusal}
use Rattle.refusals.specs.Refusals.{inside}
use Rattle.moves.specs.Reactions.{EffectNeeded}
use Rattle.views.specs.Memory.{Memory, memory, local_at, table_at}
use Rattle.plans.specs.declared.Step.{Step}
use Rattle.plans.specs.declared.Plan.{Plan}
use Rattle.plans.specs.Plans.{elect_at, timeout_at, stop_at, start_at, cut_at, bad_lengths, call_bucket, call_plan, call_at}

-- counts within the measures
pub record Measured (c : Counts) : Type 0 where
  pub some_servers : 1 ≤ c.servers
  pub servers : c.servers ≤ max_servers
  pub some_buckets : 1 ≤ c.buckets
  pub buckets : c.buckets ≤ max_buckets
  pub messages : c.messages ≤ max_messages

-- a memory of which only these arrays are looked at
abbrev pub servers : (heads slots : List ℕ) → Memory
servers heads slots = memory [] heads slots [] [] [] [] []

abbrev pub elect_in : (heads slots : List ℕ) → Counts → ℕ → Result Plan Refusal
elect_in heads slots c s = elect_at (servers heads slots) c s

abbrev pub timeout_in : (heads slots : List ℕ) → Counts → ℕ → ℕ → Result Plan Refusal
timeout_in heads slots c s b = timeout_at (servers heads slots) c s b

abbrev pub stop_in : (heads slots : List ℕ) → Counts → ℕ → Result Plan Refusal
stop_in heads slots c s = stop_at (servers heads slots) c s

abbrev pub start_in : (heads slots : List ℕ) → Counts → ℕ → Result Plan Refusal
start_in heads slots c s = start_at (servers heads slots) c s

abbrev pub cut_in : (heads slots queue : List ℕ) → Counts → ℕ → ℕ → Result Plan Refusal
cut_in heads slots queue c i k = cut_at (memory [] heads slots [] [] [] queue []) c i k

-- ---- plans that may ask for a call's effect on its bucket's table

-- the words of the call fit, and its bucket b is there
pub record Called (heads slots copies : List ℕ) (c : Counts) (s b : ℕ) (w : Words) (p : Result Plan Refusal) : Type 0 where
  pub effect : Effect
  pub needed : EffectNeeded c.servers (local_at (servers heads slots) s (slot_of s b)) (words_in w) (table_at copies (slot_of s b)) effect
  pub is : p ≡ call_plan c s b w (local_at (servers heads slots) s (slot_of s b)) effect

-- the same unless it is refused with 3 or 4; the effect decides what is sent, so it is there before 12 is judged
pub record CallPlanned (heads slots copies : List ℕ) (c : Counts) (s : ℕ) (w : Words) (p : Result Plan Refusal) : Type 0 where
  pub effect : Effect
  pub needed : inside c s (call_bucket c w) ≡ true → bad_lengths w ≡ false →
      let k = slot_of s (call_bucket c w) in
      EffectNeeded c.servers (local_at (servers heads slots) s k) (words_in w) (table_at copies k) effect
  pub is : p ≡ call_at (servers heads slots) c s w effect

-- what the call does that stands where a message is handed over
abbrev pub asked_at : Memory → Step → calls.Effect
asked_at m x =
    let k = slot_of x.server x.bucket in
    calls.effect (words_in (words_at m.slots m.texts k)) (table_at m.copies k)
