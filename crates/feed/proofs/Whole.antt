-- Every way of cutting a script into parts prints what the definition's run prints for the whole script, and leaves its state and tally.
use mathlib.Core.Path.{◌≡◌, refl, sym, ap, ◌∙◌}
use mathlib.Core.List.{List, ◌++◌}
use Prim.Native.Nat.{ℕ, ◌≤◌}
use lib.ListN.{length, take, drop}
use lib.Seq.{take-append_seam}
use Rattle.input.specs.Reading.{Reading, start, fed, fed_text, finished, finished_text}
use Rattle.input.proofs.Parts.{fed_append, fed_text_append}
use Rattle.input.proofs.Whole.{printed_whole, state_whole}
use Rattle.print.specs.Room.{line_room}
use Rattle.lines.specs.Sessions.{Session, reading_in}
use Rattle.feed.specs.Whole.{zeros, Calls, begins, feeds, Whole}
use Rattle.feed.specs.Entry.{MeasuredIn, SessionFed, finish_room, Finished}
use Rattle.feed.proofs.Feeding.{part_takes}
use Rattle.feed.proofs.Starting.{zeros_start, zeros_measured}

-- what calls leave and wrote is what a reading makes of the bytes taken
pub record CallsMean (r : Reading) (script text : List ℕ) (v : Session) : Type 0 where
  pub reads : fed r script ≡ reading_in v
  pub prints : fed_text r script ≡ text
  pub measured : MeasuredIn v

-- what a call wrote is its text
written : (w : Session) (input out : List ℕ) (u : Session) (out' : List ℕ) (taken n : ℕ) (f : SessionFed w input out u out' taken n) → take n out' ≡ f.leaves.text
written w input out u out' taken n f = rw (f.leaves.wrote, f.leaves.count) (take-append_seam f.leaves.text (drop (length f.leaves.text) out))

calls_mean : (w : Session) {script text : List ℕ} {v : Session} → MeasuredIn w → Calls w script text v → CallsMean (reading_in w) script text v
unfolding fed fed_text
calls_mean w m begins = record { reads = refl; prints = refl; measured = m }
calls_mean w m (feeds {script = script} {text = text} {v = v} c input out u out' taken n f) =
    let k = calls_mean w m c in
    let p = f.means k.measured in
    record {
      reads = fed_append (reading_in w) script (take taken input) ∙ ap (λ (r : Reading). fed r (take taken input)) k.reads ∙ p.reads;
      prints = fed_text_append (reading_in w) script (take taken input) ∙ rw (k.reads, k.prints, p.prints, written v input out u out' taken n f);
      measured = p.measured;
    }

pub calls_from_zeros : (heads slots copies working texts queue payloads answers line : List ℕ) {script text : List ℕ} {v : Session}
    → Calls (zeros heads slots copies working texts queue payloads answers line) script text v → CallsMean start script text v
calls_from_zeros heads slots copies working texts queue payloads answers line c =
    rw (← zeros_start heads slots copies working texts queue payloads answers line)
    (calls_mean (zeros heads slots copies working texts queue payloads answers line) (zeros_measured heads slots copies working texts queue payloads answers line) c)

pub script_whole : (heads slots copies working texts queue payloads answers line : List ℕ) {script text : List ℕ} {v : Session}
    → Calls (zeros heads slots copies working texts queue payloads answers line) script text v
    → (out : List ℕ) (u : Session) (out' : List ℕ) (r : ℕ) → finish_room ≤ length out → Finished v out u out' r
    → Whole script (text ++ take r out') u
script_whole heads slots copies working texts queue payloads answers line {script} {text} {v} c out u out' r room f =
    let k = calls_from_zeros heads slots copies working texts queue payloads answers line c in
    let m = f.means room k.measured in
    let last : take r out' ≡ finished_text (reading_in v) = rw (m.wrote, m.count) (take-append_seam (finished_text (reading_in v)) (drop (length (finished_text (reading_in v))) out)) in
    record {
      prints = rw (last, ← k.prints, ← k.reads) (printed_whole script);
      leaves = ap (λ (x : Reading). x.state) (sym m.reads) ∙ ap (λ (x : Reading). (finished x).state) (sym k.reads) ∙ state_whole script;
    }

-- a call with room for a line takes a byte, where there is one
pub takes_some : (w : Session) (input out : List ℕ) (u : Session) (out' : List ℕ) (taken n : ℕ) → line_room ≤ length out → 1 ≤ length input → SessionFed w input out u out' taken n → 1 ≤ taken
takes_some w input out u out' taken n r i f = part_takes w input out u out' taken n r i f.leaves
