-- The part of a log that concerns one bucket, as a history of that bucket.
use mathlib.Core.List.{List, [], ◌∷◌, map}
use Prim.Native.Nat.{ℕ}
use native.Mathlib.Decide.{ℕ_discrete}
use Rattle.entries.specs.Entries.{Entry}
use Rattle.model.specs.Calls.{Words, Result, value, listed, done, mismatch, full, notdone, unknown, Effect, answers, writes, effect}
use Rattle.history.specs.History.{Contents, Write, Accept, Report, Win, Check, End, never, answered, Call, History}
use Rattle.consistency.proofs.Log.{Log}
use Rattle.consistency.proofs.Log

-- ---- a plain table: what one copy, without servers, makes of a call

-- the table that an effect leaves, and the result that it answers
unfoldable pub left : Effect → List Entry → List Entry
left (answers r) t = t
left (writes u) t = u

unfoldable pub said : Effect → Result
said (answers r) = r
said (writes u) = done

abbrev pub plain : Contents
plain = record {
  Table = List Entry;
  Words = Words;
  Result = Result;
  empty = [];
  after = λ w t. left (effect w t) t;
  answer = λ w t. said (effect w t);
}

-- ---- the entries of one bucket

-- l with a in front if a statement holds
abbrev pub put_if : {A P : Type 0} → Dec P → A → List A → List A
put_if (yes p) a l = a ∷ l
put_if (no p) a l = l

-- those of l whose bucket is b
unfoldable pub in_bucket : {A : Type 0} → (A → ℕ) → ℕ → List A → List A
in_bucket bucket b [] = []
in_bucket bucket b (a ∷ l) = put_if (ℕ_discrete (bucket a) b) a (in_bucket bucket b l)

abbrev pub write_of : Log.Write → Write plain
write_of w = record { at = w.at; parent = w.parent; table = w.table; call = w.call; line = w.line }

abbrev pub accept_of : Log.Accept → Accept
accept_of a = record { server = a.server; at = a.at }

abbrev pub report_of : Log.Report → Report
report_of r = record { server = r.server; election = r.election; at = r.at }

abbrev pub win_of : Log.Win → Win
win_of x = record { election = x.election; members = x.members; line = x.line }

abbrev pub check_of : Log.Check → Check
check_of c = record { at = c.at; call = c.call; line = c.line; members = c.members }

-- how a call ended, by the result it printed in a line
unfoldable pub end_by : ℕ → Result → End plain
end_by line (value v) = answered line (value v)
end_by line (listed l) = answered line (listed l)
end_by line done = answered line done
end_by line mismatch = answered line mismatch
end_by line full = answered line full
end_by line notdone = End.notdone line
end_by line unknown = End.unknown line

-- one end if a statement holds, else another
abbrev pub or_else : {P : Type 0} → Dec P → End plain → End plain → End plain
or_else (yes p) e f = e
or_else (no p) e f = f

-- how call i ended: the first entry with its number says it
unfoldable pub end_of : List Log.Ended → ℕ → End plain
end_of [] i = never
end_of (x ∷ l) i = or_else (ℕ_discrete x.number i) (end_by x.line x.result) (end_of l i)

abbrev pub call_of : List Log.Ended → Log.Begun → Call plain
call_of ends x = record { number = x.number; words = x.words; begun = x.line; end = end_of ends x.number }

-- the entries of bucket b; a win is of all buckets
abbrev pub history_of : Log → ℕ → History plain
history_of log b = record {
  writes = map write_of (in_bucket (λ w. w.bucket) b log.writes);
  accepts = map accept_of (in_bucket (λ a. a.bucket) b log.accepts);
  reports = map report_of (in_bucket (λ r. r.bucket) b log.reports);
  wins = map win_of log.wins;
  checks = map check_of (in_bucket (λ c. c.bucket) b log.checks);
  calls = map (call_of log.ends) (in_bucket (λ x. x.bucket) b log.begins);
}
