-- What a part of a script leaves, array by array.
use Rattle.std.specs.Prelude.{ℕ, List}
use Rattle.memory.specs.Lent.{Lent, was, is}
use Rattle.views.specs.Lent.{Lents}
use Rattle.runs.specs.declared.Tally.{Tally}
use Rattle.feed.specs.Entry.{Feeds}
use Rattle.feed.specs.Lent.{LentTally}

pub record PartFed (counts heads slots copies working texts queue payloads answers reader line : List ℕ) (t : Tally) (input out : List ℕ) (counts' heads' slots' copies' working' texts' queue' payloads' answers' reader' line' : List ℕ) (t' : Tally) (out' : List ℕ) (taken : ℕ) : Type 0 where
  pub does : Feeds counts heads slots copies working texts queue payloads answers reader line t input out counts' heads' slots' copies' working' texts' queue' payloads' answers' reader' line' t' out' taken

abbrev pub FeedsEach : Lents → (reader line : Lent) → LentTally → (input out : Lent) → ℕ → Type 0
FeedsEach a reader line t input out taken =
    PartFed
    (was a.counts)
    (was a.heads)
    (was a.slots)
    (was a.copies)
    (was a.working)
    (was a.texts)
    (was a.queue)
    (was a.payloads)
    (was a.answers)
    (was reader)
    (was line)
    t.entry.now
    (was input)
    (was out)
    (is a.counts)
    (is a.heads)
    (is a.slots)
    (is a.copies)
    (is a.working)
    (is a.texts)
    (is a.queue)
    (is a.payloads)
    (is a.answers)
    (is reader)
    (is line)
    t.exit.now
    (is out)
    taken
