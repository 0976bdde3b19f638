-- The contracts of the public calls over what is lent to them. The definitions are those of Entry.antt.
use Rattle.std.specs.Prelude.{ℕ, get_or}
use Rattle.std.specs.Borrow.{MutBor}
use denote.Triple.Both.{Both}
use Rattle.memory.specs.Lent.{Lent, was, is}
use Rattle.views.specs.Lent.{Lents, old, new, old_answers, new_answers}
use Rattle.runs.specs.declared.Tally.{Tally}
use Rattle.tally.specs.Sums.{tally_sum}
use Rattle.feed.specs.declared.FedPart.{FedPart}
use Rattle.feed.specs.declared.FedEnd.{FedEnd}
use Rattle.feed.specs.Entry.{session_in, SessionFed, Finishes}

-- a part of the input: t and t' are the tally before and after, `taken` is how many bytes were taken
abbrev pub FeedsFrom : Lents → (reader line : Lent) → Tally → (input out : Lent) → Tally → (taken : ℕ) → Type 0
FeedsFrom a reader line t input out t' taken =
    SessionFed
    (session_in (old a) (old_answers a) (was reader) (was line) t)
    (was input)
    (was out)
    (session_in (new a) (new_answers a) (is reader) (is line) t')
    (is out)
    taken
    (get_or (is reader) 2 0)

-- the end of the input: r is how many bytes were written
abbrev pub FinishesFrom : Lents → (reader line : Lent) → Tally → (out : Lent) → Tally → (r : ℕ) → Type 0
FinishesFrom a reader line t out t' r =
    Finishes
    (was a.counts)
    (was a.heads)
    (was a.slots)
    (was a.copies)
    (was a.working)
    (was a.texts)
    (was a.queue)
    (was a.payloads)
    (old_answers a)
    (was reader)
    (was line)
    t
    (was out)
    (is a.counts)
    (is a.heads)
    (is a.slots)
    (is a.copies)
    (is a.working)
    (is a.texts)
    (is a.queue)
    (is a.payloads)
    (new_answers a)
    (is reader)
    (is line)
    t'
    (is out)
    r

-- with the tally by value: what is to be added to it is answered
abbrev pub FeedsValue : Lents → (reader line : Lent) → Tally → (input out : Lent) → FedPart → Type 0
FeedsValue a reader line t input out r = FeedsFrom a reader line t input out (tally_sum t r.change) r.taken

abbrev pub FinishesValue : Lents → (reader line : Lent) → Tally → (out : Lent) → FedEnd → Type 0
FinishesValue a reader line t out r = FinishesFrom a reader line t out (tally_sum t r.change) r.written

-- with the tally lent
abbrev pub LentTally : Type 0
LentTally = Both (MutBor Tally) (MutBor Tally)

abbrev pub FeedsScript : Lents → (reader line : Lent) → LentTally → (input out : Lent) → ℕ → Type 0
FeedsScript a reader line t input out taken = FeedsFrom a reader line t.entry.now input out t.exit.now taken

abbrev pub FinishesScript : Lents → (reader line : Lent) → LentTally → (out : Lent) → ℕ → Type 0
FinishesScript a reader line t out r = FinishesFrom a reader line t.entry.now out t.exit.now r
