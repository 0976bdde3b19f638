-- The public calls: what the parts of a call leave is what its contract says.
use mathlib.Core.Path.{◌≡◌, refl, ap, subst, ◌∙◌}
use mathlib.Core.List.{List, [], ◌∷◌, ◌++◌, append_assoc}
use Prim.Native.Nat.{ℕ, zero, suc, ◌+◌, ◌≤◌, ◌<◌}
use native.Mathlib.Omega.{arith}
use native.Mathlib.Decide.{dec_le}
use lib.ListN.{length, take, drop, get_or, set, length-append, length-take, take-append-drop}
use lib.Seq.{take_all, length-take-le, length_front}
use Rattle.model.specs.Print.{tally_text}
use Rattle.print.specs.Printed.{Printed}
use Rattle.views.specs.Memory.{Memory, memory}
use Rattle.runs.specs.declared.Tally.{Tally}
use Rattle.runs.specs.Meaning.{tally_in}
use Rattle.input.specs.Reading.{fed, fed_text, last_read, last_text, finished, finished_text}
use Rattle.input.proofs.Whole.{last_is_fed}
use Rattle.progress.specs.declared.Progress.{Progress}
use Rattle.print.specs.Room.{line_room, tally_room}
use Rattle.progress.specs.Progress.{last_feed}
use Rattle.progress.proofs.Feeds.{feeds_none, feeds_one}
use Rattle.lines.specs.Sessions.{Held, held, Session, session, present_line, reading_in}
use Rattle.lines.specs.Feeding.{Fed, PartFed}
use Rattle.lines.proofs.Advancing.{written_on}
use Rattle.feed.specs.Entry.{session_in, MeasuredIn, SessionFed, finish_room, Finished, Finishes}
use Rattle.feed.proofs.Feeding.{Ready, fed_means, part_takes}

-- ---- the three words of a reader

word_0 : (r : List ℕ) (a b c : ℕ) → length r ≡ 3 → get_or (set (set (set r 0 a) 1 b) 2 c) 0 0 ≡ a
word_0 [] a b c e = absurd (omega arith)
word_0 (x ∷ r) a b c e = refl

word_1 : (r : List ℕ) (a b c : ℕ) → length r ≡ 3 → get_or (set (set (set r 0 a) 1 b) 2 c) 1 0 ≡ b
word_1 [] a b c e = absurd (omega arith)
word_1 (x ∷ []) a b c e = absurd (omega arith)
word_1 (x ∷ (y ∷ r)) a b c e = refl

word_2 : (r : List ℕ) (a b c : ℕ) → length r ≡ 3 → get_or (set (set (set r 0 a) 1 b) 2 c) 2 0 ≡ c
word_2 [] a b c e = absurd (omega arith)
word_2 (x ∷ []) a b c e = absurd (omega arith)
word_2 (x ∷ (y ∷ [])) a b c e = absurd (omega arith)
word_2 (x ∷ (y ∷ (z ∷ r))) a b c e = refl

-- ---- a part

session_fed : (w : Session) (input out : List ℕ) (w' : Session) (out' : List ℕ) (taken written : ℕ) → length w.held.bytes ≡ 121 → PartFed w input out w' out' taken written → SessionFed w input out w' out' taken written
session_fed w input out w' out' taken written s f =
    record {
      leaves = f;
      means = λ h.
          let m = fed_means w (length out) (record { measured = h; size = s }) f.feeds in
          record { reads = m.reads; prints = m.prints; measured = m.ready.measured };
    }

pub part_fed : (m : Memory) (l reader line : List ℕ) (t : Tally) (input out : List ℕ) (m' : Memory) (l' reader' line' : List ℕ) (p : Progress) (out' : List ℕ)
    → length reader ≡ 3 → length line ≡ 121
    → PartFed (session m l t (get_or reader 0 0) (held line (get_or reader 1 0))) input out (session m' l' p.tally p.lines (held line' p.held)) out' p.taken p.written
    → reader' ≡ set (set (set reader 0 p.lines) 1 p.held) 2 p.written
    → SessionFed (session_in m l reader line t) input out (session_in m' l' reader' line' p.tally) out' p.taken (get_or reader' 2 0)
part_fed m l reader line t input out m' l' reader' line' p out' r s f e =
    rw (e, word_0 reader p.lines p.held p.written r, word_1 reader p.lines p.held p.written r, word_2 reader p.lines p.held p.written r)
    (session_fed _ input out _ out' p.taken p.written s f)

-- ---- the end

present_some : (h : Held) → 1 ≤ h.count → length h.bytes ≡ 121 → 1 ≤ length (present_line h)
unfolding present_line
present_some h c s = rw (length-take h.count h.bytes, s) (omega arith)

-- the end of the input does what a line feed does there, or nothing
last_fed : (w : Session) → length w.held.bytes ≡ 121
    → (finished (reading_in w) ≡ fed (reading_in w) (last_feed w.held.count)) × (last_text (reading_in w) (present_line w.held) ≡ fed_text (reading_in w) (last_feed w.held.count))
unfolding finished last_read last_text fed fed_text present_line
last_fed w s = go (dec_le 1 w.held.count)
  where
    go : Dec (1 ≤ w.held.count) → (finished (reading_in w) ≡ fed (reading_in w) (last_feed w.held.count)) × (last_text (reading_in w) (present_line w.held) ≡ fed_text (reading_in w) (last_feed w.held.count))
    go (yes h) = rw (feeds_one w.held.count h) (last_is_fed (reading_in w) (present_line w.held) (present_some w.held h s))
    go (no h) =
        let z : w.held.count ≡ 0 = omega arith in
        (rw (z, feeds_none), rw (z, feeds_none))

-- what the last line stands for
record LastMeans (w w' : Session) (text : List ℕ) : Type 0 where
  reads : finished (reading_in w) ≡ reading_in w'
  prints : last_text (reading_in w) (present_line w.held) ≡ text
  measured : MeasuredIn w'

last_means : (w w' : Session) (text : List ℕ) → Ready w → Fed w line_room (last_feed w.held.count) text w' → LastMeans w w' text
last_means w w' text r f =
    let m = fed_means w line_room r f in
    let k = last_fed w r.size in
    record { reads = k.0 ∙ m.reads; prints = k.1 ∙ m.prints; measured = m.ready.measured }

few_feeds : (n : ℕ) → length (last_feed n) ≤ 1
few_feeds n = go (dec_le 1 n)
  where
    go : Dec (1 ≤ n) → length (last_feed n) ≤ 1
    go (yes h) = rw (feeds_one n h) (omega arith)
    go (no h) =
        let z : n ≡ 0 = omega arith in
        rw (z, feeds_none) (omega arith)

-- a last line feed is taken, where there is room for a line
all_taken : (w : Session) (n : ℕ) (out : List ℕ) (v : Session) (out' : List ℕ) (taken written : ℕ) → line_room ≤ length out → PartFed w (last_feed n) out v out' taken written → take taken (last_feed n) ≡ last_feed n
all_taken w n out v out' taken written r f = go (dec_le 1 (length (last_feed n)))
  where
    go : Dec (1 ≤ length (last_feed n)) → take taken (last_feed n) ≡ last_feed n
    go (yes h) = take_all taken (last_feed n) (omega (arith, few_feeds n, part_takes w (last_feed n) out v out' taken written r h f))
    go (no h) = take_all taken (last_feed n) (omega arith)

-- bytes of the first m, and those after them
rest_of : (n m : ℕ) (l : List ℕ) → n ≤ m → drop n (take m l) ++ drop m l ≡ drop n l
rest_of zero m l h = take-append-drop m l
rest_of (suc n) zero l h = absurd (omega arith)
rest_of (suc n) (suc m) [] h = refl
rest_of (suc n) (suc m) (x ∷ l) h = rest_of n m l (omega arith)

-- what a part of the output holds is no longer than it
few_written : (w : Session) (input out : List ℕ) (v : Session) (part : List ℕ) (taken written : ℕ) → PartFed w input out v part taken written → length part ≡ length out → written ≤ length out
few_written w input out v part taken written k z = omega (arith, k.count, simp length-append at (ap length k.wrote))

-- behind what a line prints there is room for the tally
pub tally_fits : (w : Session) (input out : List ℕ) (v : Session) (part : List ℕ) (taken written : ℕ) → finish_room ≤ length out → PartFed w input (take line_room out) v part taken written → length part ≡ length (take line_room out) → written + tally_room ≤ length (part ++ drop line_room out)
tally_fits w input out v part taken written h k z =
    rw (length_front out part line_room z) (omega (arith, few_written w input (take line_room out) v part taken written k z, length-take-le line_room out (omega arith)))

finished_told : (w : Session) (out : List ℕ) (v : Session) (part : List ℕ) (taken written : ℕ) (out' : List ℕ) (r : ℕ) → length w.held.bytes ≡ 121 → finish_room ≤ length out
    → PartFed w (last_feed w.held.count) (take line_room out) v part taken written → length part ≡ length (take line_room out)
    → Printed (tally_text (tally_in v.tally)) (part ++ drop line_room out) written out' r → Finished w out v out' r
unfolding finished_text
finished_told w out v part taken written out' r s h k z p =
    let x = k.text in
    let mid = part ++ drop line_room out in
    let y = tally_text (tally_in v.tally) in
    let room : length (take line_room out) ≡ line_room = length-take-le line_room out (omega arith) in
    let few : length x ≤ line_room = omega (arith, k.count, few_written w (last_feed w.held.count) (take line_room out) v part taken written k z) in
    let fits : Fed w line_room (last_feed w.held.count) x v =
    subst (λ (l : List ℕ). Fed w line_room l x v) (all_taken w w.held.count (take line_room out) v part taken written (omega arith) k) (subst (λ (n : ℕ). Fed w n (take taken (last_feed w.held.count)) x v) room k.feeds) in
    let a : part ++ drop line_room out ≡ x ++ drop (length x) out = rw (k.wrote, append_assoc x (drop (length x) (take line_room out)) (drop line_room out), rest_of (length x) line_room out few) in
    let b : out' ≡ take (length x) mid ++ y ++ drop (length x + length y) mid = subst (λ (i : ℕ). out' ≡ take i mid ++ y ++ drop (i + length y) mid) k.count p.is in
    let wrote : out' ≡ (x ++ y) ++ drop (length (x ++ y)) out = written_on x y out mid out' a b in
    let count : r ≡ length (x ++ y) = p.ends ∙ rw (k.count, length-append x y) in
    record {
      waits = λ g. absurd (omega arith);
      leaves = λ g. record { text = x; ends = fits; wrote = wrote; count = count };
      means = λ g i.
          let m = last_means w v x (record { measured = i; size = s }) fits in
          let t : finished_text (reading_in w) ≡ x ++ y = rw (finished_text, m.prints, m.reads) in
          record { reads = m.reads; wrote = rw t wrote; count = rw t count; measured = m.measured };
    }

finished_waits : (w : Session) (out : List ℕ) → length out < finish_room → Finished w out w out 0
finished_waits w out h =
    record { waits = λ g. record { same = refl; kept = refl; zero = refl }; leaves = λ g. absurd (omega arith); means = λ g. absurd (omega arith) }

module _ (counts heads slots copies working texts queue payloads answers reader line : List ℕ) (t : Tally) (out : List ℕ) where
  pub end_waits : length out < finish_room
      → Finishes counts heads slots copies working texts queue payloads answers reader line t out counts heads slots copies working texts queue payloads answers reader line t out 0
  end_waits h = record { does = finished_waits _ out h; rests = λ g. refl; wrote = λ g. absurd (omega arith) }

  pub end_finished : (counts' heads' slots' copies' working' texts' queue' payloads' answers' reader' line' feed part : List ℕ) (p : Progress) (out' : List ℕ) (r : ℕ)
      → length reader ≡ 3 → length line ≡ 121 → finish_room ≤ length out
      → PartFed (session (memory counts heads slots copies working texts queue payloads) answers t (get_or reader 0 0) (held line (get_or reader 1 0))) feed (take line_room out) (session (memory counts' heads' slots' copies' working' texts' queue' payloads') answers' p.tally p.lines (held line' p.held)) part p.taken p.written
      → feed ≡ last_feed (get_or reader 1 0) → length part ≡ length (take line_room out)
      → Printed (tally_text (tally_in p.tally)) (part ++ drop line_room out) p.written out' r
      → reader' ≡ set (set (set reader 0 p.lines) 1 p.held) 2 r
      → Finishes counts heads slots copies working texts queue payloads answers reader line t out counts' heads' slots' copies' working' texts' queue' payloads' answers' reader' line' p.tally out' r
  end_finished counts' heads' slots' copies' working' texts' queue' payloads' answers' reader' line' feed part p out' r q s h k f z g e =
      record {
        does = rw (e, word_0 reader p.lines p.held r q, word_1 reader p.lines p.held r q) (finished_told _ out _ part p.taken p.written out' r s h (rw f at k) z g);
        rests = λ i. absurd (omega arith);
        wrote = λ i. rw e (word_2 reader p.lines p.held r q);
      }
