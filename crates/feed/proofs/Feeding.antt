-- What is fed stands for what the definitions make of the same bytes.
use mathlib.Core.Path.{◌≡◌, refl, sym, ap, ◌∙◌}
use mathlib.Core.List.{List, [], ◌∷◌, ◌++◌, append-nil}
use Prim.Native.Nat.{ℕ, ◌≤◌, ◌<◌}
use native.Mathlib.Omega.{arith}
use native.Mathlib.Decide.{dec_le}
use lib.ListN.{length, take, length-append}
use Rattle.model.specs.Measures.{max_lines}
use Rattle.model.specs.Lines.{State}
use Rattle.model.specs.Run.{step}
use Rattle.runs.specs.Meaning.{state_in}
use Rattle.runs.proofs.Reading.{step_read}
use Rattle.runs.specs.Meaning.{tally_in, outcome_in}
use Rattle.input.specs.Reading.{Reading, reading, kept_all, NoFeed, ended, ended_text, fed, fed_text}
use Rattle.input.proofs.Parts.{fed_append, fed_text_append, line_kept, line_silent, line_feed, past_kept, past_silent}
use Rattle.input.proofs.Whole.{step_kept}
use Rattle.lines.specs.Sessions.{Held, Session, present_line, ended_line, held_after, reading_in}
use Rattle.lines.specs.Lines.{LineEnded}
use Rattle.lines.proofs.Holding.{put_all_means, put_all_size, ended_whole, ended_rest, after_whole, after_rest}
use Rattle.print.specs.Room.{line_room}
use Rattle.lines.specs.Feeding.{LinesFed, nothing, line, Fed, bytes, past, PartFed}
use Rattle.feed.specs.Entry.{MeasuredIn}

-- where nothing was taken nothing is written
lines_nothing : (w : Session) (room : ℕ) {input text : List ℕ} {v : Session} → LinesFed w room input text v → length input ≡ 0 → length text ≡ 0
lines_nothing w room nothing e = refl
lines_nothing w room (line {input = a} g h r l n u more k) e = absurd (omega (arith, length-append a (l ++ (10 ∷ [])), length-append l (10 ∷ [])))

pub fed_nothing : (w : Session) (room : ℕ) {input text : List ℕ} {v : Session} → Fed w room input text v → length input ≡ 0 → length text ≡ 0
fed_nothing w room (bytes {input = a} g h l n) e = lines_nothing w room g (omega (arith, length-append a l))
fed_nothing w room (past {input = a} g h l) e = lines_nothing w room g (omega (arith, length-append a l))

-- a part is taken, at least a byte of it, where there is room for a line
pub part_takes : (w : Session) (input out : List ℕ) (u : Session) (out' : List ℕ) (taken n : ℕ) → line_room ≤ length out → 1 ≤ length input → PartFed w input out u out' taken n → 1 ≤ taken
part_takes w input out u out' taken n r i f = go (dec_le 1 taken)
  where
    go : Dec (1 ≤ taken) → 1 ≤ taken
    go (yes h) = h
    go (no h) =
        let z : taken ≡ 0 = omega arith in
        let e : length (take taken input) ≡ 0 = rw z refl in
        let k = fed_nothing w (length out) f.feeds e in
        absurd (omega (arith, k, f.count, (f.stops (omega arith)).short))

-- within the measures, with the array of the present line in its size
pub record Ready (w : Session) : Type 0 where
  pub measured : MeasuredIn w
  pub size : length w.held.bytes ≡ 121

-- what a part stands for
pub record Means (w : Session) (input text : List ℕ) (v : Session) : Type 0 where
  pub reads : fed (reading_in w) input ≡ reading_in v
  pub prints : fed_text (reading_in w) input ≡ text
  pub ready : Ready v

-- a line, read where it lies or from what is held, does what the definitions keep of it does
line_read : (h : Held) (s : State) (l : List ℕ) → length h.bytes ≡ 121 → step s (kept_all (present_line h) l) ≡ step s (ended_line h l)
unfolding present_line
line_read h s l z = go (dec_le 1 h.count)
  where
    go : Dec (1 ≤ h.count) → step s (kept_all (present_line h) l) ≡ step s (ended_line h l)
    go (yes c) = ap (step s) (sym (put_all_means h l z) ∙ sym (ended_rest h l (λ e. omega arith)))
    go (no c) =
        let e : h.count ≡ 0 = omega arith in
        rw (ended_whole h l e, e) (step_kept s l)

-- after it nothing is held
held_none : (h : Held) (l : List ℕ) → present_line (held_after h l) ≡ []
unfolding present_line
held_none h l = go (dec_le 1 h.count)
  where
    go : Dec (1 ≤ h.count) → present_line (held_after h l) ≡ []
    go (yes c) = rw (after_rest h l (λ e. omega arith))
    go (no c) =
        let e : h.count ≡ 0 = omega arith in
        rw (after_whole h l e, e)

held_size : (h : Held) (l : List ℕ) → length (held_after h l).bytes ≡ length h.bytes
held_size h l = go (dec_le 1 h.count)
  where
    go : Dec (1 ≤ h.count) → length (held_after h l).bytes ≡ length h.bytes
    go (yes c) = rw (after_rest h l (λ e. omega arith)) (put_all_size h l)
    go (no c) = rw (after_whole h l (omega arith))

-- the reading with the bytes l of the present line behind it
abbrev reached : Session → List ℕ → Reading
reached v l = reading (state_in v.memory (tally_in v.tally)) v.lines (kept_all (present_line v.held) l)

pub line_means : (v : Session) (l : List ℕ) (u : Session) (more : List ℕ) → Ready v → LineEnded v l u more → (ended (reached v l) ≡ reading_in u) × (ended_text (reached v l) ≡ more)
line_means v l u more r e =
    let s = state_in v.memory (tally_in v.tally) in
    let x : step s (kept_all (present_line v.held) l) ≡ record { state = state_in u.memory (tally_in e.told.tally); outcome = outcome_in e.told.report u.answers } =
    line_read v.held s l r.size ∙ step_read _ _ ∙ e.performs.means r.measured in
    (rw (x, e.next, e.counted, e.clear, held_none v.held l), rw (x, e.printed))

pub line_ready : (v : Session) (l : List ℕ) (u : Session) (more : List ℕ) → Ready v → LineEnded v l u more → Ready u
line_ready v l u more r e = record { measured = rw e.counted (e.performs.bounded r.measured); size = rw e.clear (held_size v.held l ∙ r.size) }

-- one line with its line feed
whole_line : (v : Session) (l : List ℕ) (u : Session) (more : List ℕ) → Ready v → v.lines < max_lines → NoFeed l → LineEnded v l u more
    → (fed (reading_in v) (l ++ (10 ∷ [])) ≡ reading_in u) × (fed_text (reading_in v) (l ++ (10 ∷ [])) ≡ more)
whole_line v l u more r h n e =
    let k = line_kept (reading_in v) l h n in
    let j = line_means v l u more r e in
    let f = line_feed (reached v l) h in (
      fed_append (reading_in v) l (10 ∷ []) ∙ ap (λ (y : Reading). fed y (10 ∷ [])) k ∙ f.0 ∙ j.0,
      fed_text_append (reading_in v) l (10 ∷ []) ∙ rw (line_silent (reading_in v) l h n, k) (f.1 ∙ j.1),
    )

pub lines_mean : (w : Session) (room : ℕ) {input text : List ℕ} {v : Session} → Ready w → LinesFed w room input text v → Means w input text v
unfolding fed fed_text
lines_mean w room r nothing = record { reads = refl; prints = refl; ready = r }
lines_mean w room r (line {input = a} {text = x} {v = v} g h k l n u more e) =
    let m = lines_mean w room r g in
    let j = whole_line v l u more m.ready h n e in
    record {
      reads = fed_append (reading_in w) a (l ++ (10 ∷ [])) ∙ ap (λ (y : Reading). fed y (l ++ (10 ∷ []))) m.reads ∙ j.0;
      prints = fed_text_append (reading_in w) a (l ++ (10 ∷ [])) ∙ rw (m.reads, m.prints, j.1);
      ready = line_ready v l u more m.ready e;
    }

pub fed_means : (w : Session) (room : ℕ) {input text : List ℕ} {v : Session} → Ready w → Fed w room input text v → Means w input text v
fed_means w room r (bytes {input = a} {text = x} {v = v} g h l n) =
    let m = lines_mean w room r g in
    record {
      reads = fed_append (reading_in w) a l ∙ ap (λ (y : Reading). fed y l) m.reads ∙ line_kept (reading_in v) l h n ∙ ap (λ (k : List ℕ). reading (reading_in v).state v.lines k) (sym (put_all_means v.held l m.ready.size));
      prints = fed_text_append (reading_in w) a l ∙ rw (m.reads, line_silent (reading_in v) l h n, append-nil (fed_text (reading_in w) a)) m.prints;
      ready = record { measured = m.ready.measured; size = put_all_size v.held l ∙ m.ready.size };
    }
fed_means w room r (past {input = a} {text = x} {v = v} g h l) =
    let m = lines_mean w room r g in
    record {
      reads = fed_append (reading_in w) a l ∙ ap (λ (y : Reading). fed y l) m.reads ∙ past_kept (reading_in v) l h;
      prints = fed_text_append (reading_in w) a l ∙ rw (m.reads, past_silent (reading_in v) l h, append-nil (fed_text (reading_in w) a)) m.prints;
      ready = m.ready;
    }
