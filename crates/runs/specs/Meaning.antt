-- What the memory and a line's run stand for in the definitions of crates/model.
use Rattle.std.specs.Prelude.{◌≡◌, ℕ, ◌+◌, ◌%◌, ◌^◌, true, List, length, Result, Ok, Err}
use Rattle.std.proofs.Math.Option.{Option, none, some}
use Rattle.entries.specs.Decoded.{table_in, value_bytes}
use Rattle.model.specs.Lines as lines
use Rattle.limits.specs.Stands.{Measured}
use Rattle.blocks.specs.Order.{Ordered}
use Rattle.memory.specs.Layout.{counts_at, order_of}
use Rattle.refusals.specs.declared.Refusal.{Refusal}
use Rattle.refusals.specs.Refusals.{number}
use Rattle.views.specs.Memory.{Memory, standing, cluster_in}
use Rattle.views.specs.Changes.{answers_at}
use Rattle.parse.specs.declared.Line.{Line}
use Rattle.runs.specs.declared.Report.{Report}
use Rattle.runs.specs.declared.Tally.{Tally}
use Rattle.runs.specs.Runs.{Ran}

abbrev pub state_in : Memory → lines.Tally → lines.State
state_in m t = record { cluster = cluster_in m; tally = t }

abbrev pub tally_in : Tally → lines.Tally
tally_in t = record { sent = t.sent; copied = t.copied; delivered = t.delivered; lost = t.lost; count_in_flight = t.flight }

-- within the measures: the cluster is, and where one stands, the order of its messages names no place twice
pub record Bounded (m : Memory) (t : lines.Tally) : Type 0 where
  pub measured : Measured (cluster_in m) t
  pub ordered : standing (counts_at m.counts) ≡ true → Ordered (order_of m.queue)

-- a line that was read, or one that is malformed (RULES, Lines 2)
unfoldable pub performed : lines.State → Option lines.Line → lines.LineResult
performed s none = lines.refuse s 1
performed s (some x) = lines.perform s x

-- the tally after a line that was accepted
abbrev pub tallied_by : lines.Tally → Report → lines.Tally
tallied_by t r =
    record {
      sent = t.sent + r.sent;
      copied = t.copied + r.copied;
      delivered = t.delivered + r.delivered;
      lost = t.lost + r.lost;
      count_in_flight = r.messages;
    }

-- what a report tells: the answers, with the data of the effect that was asked for
abbrev pub printed_in : Report → List ℕ → lines.Outcome
printed_in r l = lines.printed (answers_at r.answers l (value_bytes r.effect.value) (table_in r.effect.table))

unfoldable pub result_by : lines.Tally → Memory → List ℕ → Result Report Refusal → lines.LineResult
result_by t m l (Ok r) = record { state = state_in m (tallied_by t r); outcome = printed_in r l }
result_by t m l (Err e) = lines.refuse (state_in m t) (number e)

-- the result of a line
abbrev pub result_of : lines.Tally → Ran → lines.LineResult
result_of t x = result_by t x.memory x.answers x.told

-- what is told of a report, or of what says why a line is refused, by the number of each
unfoldable pub outcome_by : {E : Type 0} → (E → ℕ) → Result Report E → List ℕ → lines.Outcome
outcome_by f (Ok r) l = printed_in r l
outcome_by f (Err e) l = lines.refusal (f e)

-- what a line tells: the refusal, or the answers
unfoldable pub outcome_in : Result Report Refusal → List ℕ → lines.Outcome
outcome_in (Ok r) l = printed_in r l
outcome_in (Err e) l = lines.refusal (number e)

-- a line whose key and values are arrays of eight, sixteen and sixteen bytes
pub record WholeLine (x : Line) : Type 0 where
  pub key : length x.key.bytes ≡ 8
  pub expected : length x.expected.bytes ≡ 16
  pub value : length x.value.bytes ≡ 16

-- the tally after a line, number by number; the counts wrap at 2 ^ 32
unfoldable pub tally_after : {E : Type 0} → Tally → Result Report E → Tally
tally_after t (Ok r) =
    record {
      sent = (t.sent + r.sent) % 2 ^ 32;
      copied = (t.copied + r.copied) % 2 ^ 32;
      delivered = (t.delivered + r.delivered) % 2 ^ 32;
      lost = (t.lost + r.lost) % 2 ^ 32;
      flight = r.messages;
    }
tally_after t (Err e) = t
