-- What a report's refusal or answers are in print.
use Rattle.std.specs.Prelude.{Result, Ok, Err}
use mathlib.Core.Path.{◌≡◌}
use mathlib.Core.List.{List, []}
use Prim.Native.Nat.{ℕ, ◌≤◌, ◌<◌, ◌^◌}
use native.Mathlib.Omega.{arith}
use lib.ListN.{length}
use Rattle.entries.specs.Decoded.{table_in, value_bytes}
use Rattle.model.specs.Lines.{refusal}
use Rattle.model.specs.Print.{outcome_text}
use Rattle.refusals.specs.declared.Refusal.{Refusal}
use Rattle.refusals.specs.declared.Refusal.TheVariants.{Malformed, ClusterWrong, NotThere, BadLength, LinesSpent, ServerStopped, NoSuchMessage, NotLeading, BucketOccupied, NoRoundOpen, LastElection, NoPlaces, BadCutOrStart}
use Rattle.refusals.specs.Refusals.{number}
use Rattle.runs.specs.declared.Report.{Report}
use Rattle.runs.specs.Meaning.{outcome_by, outcome_in}
use Rattle.runs.proofs.Numbers.{outcome_numbered}
use Rattle.print.specs.Printed.{Printed}
use Rattle.print.proofs.Room.{refusal_room}
use Rattle.print.proofs.Printing.{printed_none}
use Rattle.output.specs.Told.{Told, report_text}
use Rattle.output.proofs.Answering.{no_texts}

pub below : (n : ℕ) → n < 2 ^ 32 → n < 10 ^ 10
below n h = omega arith

pub refusal_fits : (line r : ℕ) → line < 2 ^ 32 → r < 2 ^ 32 → length (outcome_text line (refusal r)) ≤ 35
refusal_fits line r h g = omega (arith, refusal_room 10 10 line r (omega arith) (omega arith) (below line h) (below r g))

number_low : (e : Refusal) → number e < 2 ^ 32
number_low Malformed = omega arith
number_low ClusterWrong = omega arith
number_low NotThere = omega arith
number_low BadLength = omega arith
number_low LinesSpent = omega arith
number_low ServerStopped = omega arith
number_low NoSuchMessage = omega arith
number_low NotLeading = omega arith
number_low BucketOccupied = omega arith
number_low NoRoundOpen = omega arith
number_low LastElection = omega arith
number_low NoPlaces = omega arith
number_low BadCutOrStart = omega arith

pub number_fits : (line : ℕ) (e : Refusal) (n : ℕ) → line < 2 ^ 32 → n ≡ number e → length (outcome_text line (refusal n)) ≤ 35
number_fits line e n h g = rw g (refusal_fits line (number e) h (number_low e))

module _ {E : Type 0} (f : E → ℕ) (line : ℕ) (l : List ℕ) where
  -- what says why a line is refused, by its number, has room and is what is told
  pub refusal_told_by : {q : Result Report E} {e : E} {n : ℕ} {out after : List ℕ} {at p : ℕ} → q ≡ Err e → line < 2 ^ 32 → n < 2 ^ 32 → n ≡ f e
      → Printed (outcome_text line (refusal n)) out at after p → Told (outcome_text line (outcome_by f q l)) out at after p
  unfolding outcome_by
  refusal_told_by {n = n} {at = at} i h g k d = rw (i, ← k) (record { printed = d; within = omega (arith, refusal_fits line n h g, d.ends) })

  pub report_told_by : {q : Result Report E} {r : Report} {out after : List ℕ} {at p : ℕ} → q ≡ Ok r → Told (report_text r l) out at after p → Told (outcome_text line (outcome_by f q l)) out at after p
  unfolding outcome_by outcome_text
  report_told_by i d = rw i d

module _ (line : ℕ) (l : List ℕ) where
  -- a refusal has room, and is what is told
  pub refusal_told : {q : Result Report Refusal} {e : Refusal} {n : ℕ} {out after : List ℕ} {at p : ℕ} → q ≡ Err e → line < 2 ^ 32 → n ≡ number e
      → Printed (outcome_text line (refusal n)) out at after p → Told (outcome_text line (outcome_in q l)) out at after p
  refusal_told {q = q} {e = e} i h g d = rw (← outcome_numbered q l) (refusal_told_by number line l i h (rw g (number_low e)) g d)

  pub report_told : {q : Result Report Refusal} {r : Report} {out after : List ℕ} {at p : ℕ} → q ≡ Ok r → Told (report_text r l) out at after p → Told (outcome_text line (outcome_in q l)) out at after p
  report_told {q = q} i d = rw (← outcome_numbered q l) (report_told_by number line l i d)

pub none_told : (r : Report) (l out : List ℕ) (at : ℕ) → r.answers ≡ 0 → Told (report_text r l) out at out at
none_told r l out at none =
    let e : report_text r l ≡ [] = rw none (no_texts l (value_bytes r.effect.value) (table_in r.effect.table)) in
    record { printed = printed_none out at e; within = omega arith }
