-- The steps of feeding, one after the other, are the whole part.
use mathlib.Core.Path.{◌≡◌, refl, sym, subst, ◌∙◌}
use mathlib.Core.Bool.{true}
use Rattle.std.specs.Prelude.{Option, Some, None, is_some}
use Rattle.std.specs.Option.{unwrap_or}
use Rattle.std.proofs.lemmas.Option.{same_Some}
use mathlib.Core.List.{List, [], ◌∷◌, ◌++◌, append_assoc, append-nil}
use Prim.Native.Nat.{ℕ, ◌+◌, ◌-◌, ◌≤◌, ◌<◌}
use native.Mathlib.Omega.{arith}
use native.Mathlib.Numerals.{add-one}
use native.Mathlib.Decide.{dec_le}
use lib.ListN.{length, take, drop, length-append, length-drop, take-append-drop}
use lib.Seq.{take-length, take-suc, take-append_seam, drop-append-add, drop-drop}
use Rattle.model.specs.Measures.{max_lines}
use Rattle.print.specs.Room.{line_room}
use Rattle.print.proofs.Printing.{printed_none}
use Rattle.views.specs.Memory.{Memory}
use Rattle.runs.specs.declared.Tally.{Tally}
use Rattle.progress.specs.declared.Ending.{Ending}
use Rattle.progress.specs.declared.Progress.{Progress}
use Rattle.progress.specs.Progress.{begun_at, ended_at}
use Rattle.lines.specs.Sessions.{Held, held, put_all, Session, session}
use Rattle.parse_deliver.specs.Deliver.{between}
use Rattle.lines.specs.Lines.{Plain, FeedAt, LineRun, LineTold}
use Rattle.lines.specs.Feeding.{LinesFed, nothing, line, bytes, past, PartFed, WholeLine, whole, unended, NextLine, found, full, Advanced, RestKept, waits, passes}
use Rattle.lines.specs.declared.Read.{Read}
use Rattle.lines.proofs.Finding.{take_between, none_found}
use Rattle.lines.proofs.Told.{line_told}

-- ---- one part after the other

-- the same bytes and the same text
same_fed : (w : Session) (room : ℕ) {a b x y : List ℕ} {u : Session} → a ≡ b → x ≡ y → LinesFed w room a x u → LinesFed w room b y u
same_fed w room {a} {b} {x} {y} {u} e d f = subst (λ (i : List ℕ). LinesFed w room i y u) e (subst (λ (t : List ℕ). LinesFed w room a t u) d f)

-- some lines after the others, in the room that the first leave
pub fed_on : (w : Session) (room : ℕ) {a x : List ℕ} {v : Session} {b y : List ℕ} {u : Session} → LinesFed w room a x v → LinesFed v (room - length x) b y u → LinesFed w room (a ++ b) (x ++ y) u
fed_on w room {a} {x} f nothing = same_fed w room (sym (append-nil a)) (sym (append-nil x)) f
fed_on w room {a} {x} f (line {input = b} {text = y} g h r l n u more e) =
    same_fed w room (append_assoc a b (l ++ (10 ∷ []))) (append_assoc x y more) (line (fed_on w room f g) h (omega (arith, r, length-append x y)) l n u more e)

-- ---- one step

-- a line that was read may be run
pub line_allowed : {line input : List ℕ} {size : ℕ} {p : Progress} {line' : List ℕ} {d : Read} → NextLine line input size p line' (Some d) → (p.lines < max_lines) × (p.written + line_room ≤ size)
line_allowed (found h o k) = (h, o)
line_allowed (full h e f) = absurd (cc)

-- a line ends at a line feed
line_run_lem : (w : Session) (input out : List ℕ) (p : Progress) (feed : ℕ) (w' : Session) (out' : List ℕ) (p' : Progress) → w.lines < max_lines → p.written + line_room ≤ length out
    → FeedAt input p.taken feed → feed < length input → LineTold w (between input p.taken feed) w' out p.written out' p'.written
    → p'.taken ≡ feed + 1 → Advanced w input out p w' out' (Some p')
line_run_lem w input out p feed w' out' p' h o k i t q =
    let l = between input p.taken feed in
    record {
      bytes = l ++ (10 ∷ []);
      text = t.text;
      feeds = line nothing h (omega arith) l k.bytes.plain w' t.text t.ends;
      read = rw (q, add-one, take-suc input feed 0 i, k.stops i, take_between input p.taken feed k.bytes.onward) (append_assoc (take p.taken input) l (10 ∷ []));
      printed = t.told.printed;
      within = omega arith;
      room = omega (arith, t.told.within);
      goes = λ y. omega (arith, k.bytes.onward);
      rests = λ y. absurd (cc);
    }

module _ (m : Memory) (l buffer input out : List ℕ) (p : Progress) (buffer' : List ℕ) where
  whole_run : (d : Read) (m' : Memory) (l' out' : List ℕ) (x : Ending) → p.lines < max_lines → p.written + line_room ≤ length out → WholeLine buffer input p buffer' (Some d)
      → LineRun m l d.line m' l' out out' p x
      → Advanced (session m l p.tally p.lines (held buffer p.held)) input out p (session m' l' x.tally (p.lines + 1) (held buffer' 0)) out' (Some (ended_at p x d.next))
  whole_run d m' l' out' x h o (whole c feed b k i e y z) t =
      let j : d ≡ c = same_Some d c b in
      line_run_lem (session m l p.tally p.lines (held buffer p.held)) input out p feed (session m' l' x.tally (p.lines + 1) (held buffer' 0)) out' (ended_at p x d.next) h o k i
      (line_told m l (held buffer p.held) (between input p.taken feed) d.line m' l' (held buffer' 0) out out' p x t (rw j y) z) (rw j e)
  whole_run d m' l' out' x h o (unended e f k) t = absurd (cc)

  pub advanced_line : (d : Read) (m' : Memory) (l' out' : List ℕ) (x : Ending) (r : Progress) → NextLine buffer input (length out) p buffer' (Some d)
      → LineRun m l d.line m' l' out out' p x
      → r ≡ ended_at p x d.next
      → Advanced (session m l p.tally p.lines (held buffer p.held)) input out p (session m' l' r.tally r.lines (held buffer' r.held)) out' (Some r)
  advanced_line d m' l' out' x r (found h o k) t e = rw e (whole_run d m' l' out' x h o k t)
  advanced_line d m' l' out' x r (full h e f) t g = absurd (cc)

  -- nothing is done where no line can be run
  no_line : NextLine buffer input (length out) p buffer' None → p.lines < max_lines → p.written + line_room ≤ length out → Plain input p.taken (length input)
  no_line (found h o (whole c feed b k i e y z)) j q = absurd (cc)
  no_line (found h o (unended e f k)) j q = k
  no_line (full h e f) j q = absurd (omega (arith, h j))

  same_line : NextLine buffer input (length out) p buffer' None → buffer' ≡ buffer
  same_line (found h o (whole c feed b k i e y z)) = absurd (cc)
  same_line (found h o (unended e f k)) = f
  same_line (full h e f) = f

  pub advanced_none : (r : Option Progress) → p.taken ≤ length input → p.written ≤ length out → NextLine buffer input (length out) p buffer' None → r ≡ None
      → Advanced (session m l p.tally p.lines (held buffer p.held)) input out p (session m l (unwrap_or r p).tally (unwrap_or r p).lines (held buffer' (unwrap_or r p).held)) out r
  advanced_none r t o k e =
      rw (e, same_line k)
      (record {
        bytes = [];
        text = [];
        feeds = nothing;
        read = sym (append-nil (take p.taken input));
        printed = printed_none out p.written refl;
        within = t;
        room = o;
        goes = λ y. absurd (cc);
        rests = λ y j q. no_line k j q;
      })

-- ---- all steps

-- so far
pub record Going (w : Session) (input out : List ℕ) (w' : Session) (out' : List ℕ) (p : Progress) : Type 0 where
  pub text : List ℕ
  pub feeds : LinesFed w (length out) (take p.taken input) text w'
  pub wrote : out' ≡ text ++ drop (length text) out
  pub count : p.written ≡ length text
  pub within : p.taken ≤ length input
  pub room : p.written ≤ length out
  pub size : length out' ≡ length out

pub going_starts : (m : Memory) (l : List ℕ) (n : ℕ) (buffer : List ℕ) (count : ℕ) (input out : List ℕ) (t : Tally) (p : Progress)
    → p ≡ begun_at t n count
    → Going (session m l p.tally n (held buffer count)) input out (session m l p.tally p.lines (held buffer p.held)) out p
going_starts m l n buffer count input out t p e =
    rw e
    (record {
      text = [];
      feeds = nothing;
      wrote = refl;
      count = refl;
      within = omega arith;
      room = omega arith;
      size = refl;
    })

-- what is written behind what was written
pub written_on : (x y out mid out' : List ℕ) → mid ≡ x ++ drop (length x) out → out' ≡ take (length x) mid ++ y ++ drop (length x + length y) mid
    → out' ≡ (x ++ y) ++ drop (length (x ++ y)) out
written_on x y out mid out' e f =
    let a : take (length x) mid ≡ x = rw e (take-append_seam x (drop (length x) out)) in
    let b : drop (length x + length y) mid ≡ drop (length x + length y) out = rw e (drop-append-add x (drop (length x) out) (length y) ∙ drop-drop (length y) (length x) out) in
    rw (f, a, b, length-append x y)

written_size : (x out mid : List ℕ) → mid ≡ x ++ drop (length x) out → length x ≤ length out → length mid ≡ length out
written_size x out mid e h = rw (e, length-append x (drop (length x) out), length-drop (length x) out) (omega arith)

pub going_on : (w : Session) (input out : List ℕ) (v : Session) (mid : List ℕ) (p : Progress) (w' : Session) (out' : List ℕ) (r : Option Progress)
    → Going w input out v mid p → Advanced v input mid p w' out' r → Going w input out w' out' (unwrap_or r p)
going_on w input out v mid p w' out' r g a =
    let p' = unwrap_or r p in
    let wrote : out' ≡ (g.text ++ a.text) ++ drop (length (g.text ++ a.text)) out =
    written_on g.text a.text out mid out' g.wrote (subst (λ (n : ℕ). out' ≡ take n mid ++ a.text ++ drop (n + length a.text) mid) g.count a.printed.is) in
    let count : p'.written ≡ length (g.text ++ a.text) = a.printed.ends ∙ rw (g.count, length-append g.text a.text) in
    let room : p'.written ≤ length out = omega (arith, a.room, g.size) in
    let left : length mid - p.written ≡ length out - length g.text = omega (arith, g.size, g.count) in
    record {
      text = g.text ++ a.text;
      feeds = subst (λ (l : List ℕ). LinesFed w (length out) l (g.text ++ a.text) w') (sym a.read) (fed_on w (length out) g.feeds (subst (λ (n : ℕ). LinesFed v n a.bytes a.text w') left a.feeds));
      wrote = wrote;
      count = count;
      within = a.within;
      room = room;
      size = written_size (g.text ++ a.text) out out' wrote (omega arith);
    }

-- and then the bytes after the lines
module _ (w : Session) (input out : List ℕ) (m : Memory) (l buffer out' : List ℕ) (p : Progress) (g : Going w input out (session m l p.tally p.lines (held buffer p.held)) out' p) (rests : p.lines < max_lines → p.written + line_room ≤ length out → Plain input p.taken (length input)) where
  -- a line feed after them has no room for its line
  no_room : (feed : ℕ) → p.lines < max_lines → FeedAt input p.taken feed → feed < length input → length out < p.written + line_room
  no_room feed h k i = go (dec_le (p.written + line_room) (length out))
    where
      go : Dec (p.written + line_room ≤ length out) → length out < p.written + line_room
      go (yes q) = none_found input p.taken feed (rests h q) k.bytes.onward i (k.stops i)
      go (no q) = omega arith

  rest_kept : (buffer' : List ℕ) (n feed : ℕ) → p.lines < max_lines → FeedAt input p.taken feed → held buffer' n ≡ put_all (held buffer p.held) (between input p.taken feed)
      → PartFed w input out (session m l p.tally p.lines (held buffer' n)) out' feed p.written
  rest_kept buffer' n feed h k e =
      record {
        text = g.text;
        feeds = rw (e, take_between input p.taken feed k.bytes.onward) (bytes g.feeds h (between input p.taken feed) k.bytes.plain);
        wrote = g.wrote;
        count = g.count;
        within = k.bytes.within;
        stops = λ i. record { feed = k.stops i; short = no_room feed h k i; early = h };
      }

  rest_passed : max_lines ≤ p.lines → PartFed w input out (session m l p.tally p.lines (held buffer p.held)) out' (length input) p.written
  rest_passed h =
      record {
        text = g.text;
        feeds = rw (take-length input, ← take-append-drop p.taken input) (past g.feeds h (drop p.taken input));
        wrote = g.wrote;
        count = g.count;
        within = omega arith;
        stops = λ i. absurd (omega arith);
      }

  rest_ends : (buffer' : List ℕ) (p' : Progress) → RestKept p buffer input p' buffer'
      → PartFed w input out (session m l p'.tally p'.lines (held buffer' p'.held)) out' p'.taken p'.written
  rest_ends buffer' p' (waits n feed h k e d) = rw d (rest_kept buffer' n feed h k e)
  rest_ends buffer' p' (passes h e d) = rw (d, e) (rest_passed h)

-- what is not some progress is none
pub is_none : (r : Option Progress) → ((x : Progress) → r ≡ Some x → ⊥) → r ≡ None
is_none (Some x) h = absurd (h x refl)
is_none None h = refl

-- the last step does nothing
pub going_ends : (m : Memory) (l : List ℕ) (u t : Tally) (n : ℕ) (h : Held) (input out : List ℕ) (v : Session) (mid : List ℕ) (p : Progress) (m' : Memory) (l' buffer out' : List ℕ) (r : Option Progress) (buffer' : List ℕ) (p' : Progress)
    → u ≡ t → Going (session m l u n h) input out v mid p → r ≡ None
    → Advanced v input mid p (session m' l' (unwrap_or r p).tally (unwrap_or r p).lines (held buffer (unwrap_or r p).held)) out' r → RestKept p buffer input p' buffer'
    → PartFed (session m l t n h) input out (session m' l' p'.tally p'.lines (held buffer' p'.held)) out' p'.taken p'.written
going_ends m l u t n h input out v mid p m' l' buffer out' r buffer' p' e g f a k =
    let b : Advanced v input mid p (session m' l' p.tally p.lines (held buffer p.held)) out' None = rw f at a in
    subst (λ (x : Tally). PartFed (session m l x n h) input out (session m' l' p'.tally p'.lines (held buffer' p'.held)) out' p'.taken p'.written) e
    (rest_ends (session m l u n h) input out m' l' buffer out' p (going_on (session m l u n h) input out v mid p _ out' None g b) (λ i q. b.rests refl i (omega (arith, q, g.size))) buffer' p' k)
