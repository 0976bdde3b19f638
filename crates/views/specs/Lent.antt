-- The lent arrays of a cluster in contracts: what they were when a function was called, and what they are when it returns.
use Rattle.std.specs.Prelude.{◌≡◌, List, ℕ}
use Rattle.std.specs.Borrow.{MutBor}
use denote.Triple.Both.{Both}
use Rattle.memory.specs.declared.Arrays.{Arrays}
use Rattle.memory.specs.Lent.{Lent, was, is}
use Rattle.views.specs.Memory.{Memory, memory}

-- the arrays of the cluster, and the answers of a line
pub record Lents : Type 0 where
  pub counts : Lent
  pub heads : Lent
  pub slots : Lent
  pub copies : Lent
  pub working : Lent
  pub texts : Lent
  pub queue : Lent
  pub payloads : Lent
  pub answers : Lent

-- lent one by one
abbrev pub lent_each : (counts heads slots copies working texts queue payloads answers : Lent) → Lents
lent_each c h s k w t q l a = record { counts = c; heads = h; slots = s; copies = k; working = w; texts = t; queue = q; payloads = l; answers = a }

-- lent together, in a struct that is itself lent
abbrev pub LentArrays : Type 0
LentArrays = Both (MutBor Arrays) (MutBor Arrays)

abbrev pub lent : LentArrays → Lents
lent a = record {
  counts = record { entry = a.entry.now.counts; exit = a.exit.now.counts };
  heads = record { entry = a.entry.now.heads; exit = a.exit.now.heads };
  slots = record { entry = a.entry.now.slots; exit = a.exit.now.slots };
  copies = record { entry = a.entry.now.copies; exit = a.exit.now.copies };
  working = record { entry = a.entry.now.working; exit = a.exit.now.working };
  texts = record { entry = a.entry.now.texts; exit = a.exit.now.texts };
  queue = record { entry = a.entry.now.queue; exit = a.exit.now.queue };
  payloads = record { entry = a.entry.now.payloads; exit = a.exit.now.payloads };
  answers = record { entry = a.entry.now.answers; exit = a.exit.now.answers };
}

-- two structs hold the same arrays, whatever is written in them
pub record SameNames (x y : Arrays) : Type 0 where
  pub counts : y.counts.ghost_name ≡ x.counts.ghost_name
  pub heads : y.heads.ghost_name ≡ x.heads.ghost_name
  pub slots : y.slots.ghost_name ≡ x.slots.ghost_name
  pub copies : y.copies.ghost_name ≡ x.copies.ghost_name
  pub working : y.working.ghost_name ≡ x.working.ghost_name
  pub texts : y.texts.ghost_name ≡ x.texts.ghost_name
  pub queue : y.queue.ghost_name ≡ x.queue.ghost_name
  pub payloads : y.payloads.ghost_name ≡ x.payloads.ghost_name
  pub answers : y.answers.ghost_name ≡ x.answers.ghost_name

-- the struct holds the arrays that it held when the function was called
abbrev pub SameArrays : LentArrays → Type 0
SameArrays a = SameNames a.entry.now a.exit.now

-- the memory that they hold
abbrev pub memory_in : Arrays → Memory
memory_in a = memory a.counts.now a.heads.now a.slots.now a.copies.now a.working.now a.texts.now a.queue.now a.payloads.now

-- the cluster's memory before and after
abbrev pub old : Lents → Memory
old a = memory (was a.counts) (was a.heads) (was a.slots) (was a.copies) (was a.working) (was a.texts) (was a.queue) (was a.payloads)

abbrev pub new : Lents → Memory
new a = memory (is a.counts) (is a.heads) (is a.slots) (is a.copies) (is a.working) (is a.texts) (is a.queue) (is a.payloads)

-- the answers before and after
abbrev pub old_answers : Lents → List ℕ
old_answers a = was a.answers

abbrev pub new_answers : Lents → List ℕ
new_answers a = is a.answers
