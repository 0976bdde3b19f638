-- One part of an input after another is the same as both at once; and what a part is that ends no line, or one.
use mathlib.Core.Path.{◌≡◌, refl, sym, ap, ◌∙◌}
use mathlib.Core.List.{List, [], ◌∷◌, ◌++◌, append_assoc, append-nil}
use mathlib.Core.Bool.{true, false}
use Prim.Native.Nat.{ℕ, ◌≤◌, ◌<◌}
use lib.Dec.{eqb}
use lib.ListN.{length}
use borrow.Author.Tests.{lt-ltb, le-ltb, le-leb, lt-leb}
use Rattle.model.specs.Measures.{max_lines}
use Rattle.input.specs.Reading.{Reading, reading, kept, kept_all, NoFeed, ended, ended_text, byte_read, byte_text, fed, fed_text}

-- ---- parts

pub fed_append : (r : Reading) (a b : List ℕ) → fed r (a ++ b) ≡ fed (fed r a) b
unfolding fed
fed_append r [] b = refl
fed_append r (x ∷ a) b = fed_append (byte_read r x) a b

pub fed_text_append : (r : Reading) (a b : List ℕ) → fed_text r (a ++ b) ≡ fed_text r a ++ fed_text (fed r a) b
unfolding fed fed_text
fed_text_append r [] b = refl
fed_text_append r (x ∷ a) b =
    ap (λ (t : List ℕ). byte_text r x ++ t) (fed_text_append (byte_read r x) a b)
    ∙ sym (append_assoc (byte_text r x) (fed_text (byte_read r x) a) (fed_text (fed (byte_read r x) a) b))

-- ---- one byte

pub byte_kept : (r : Reading) (b : ℕ) → r.lines < max_lines → eqb b 10 ≡ false → byte_read r b ≡ reading r.state r.lines (kept r.line b)
unfolding byte_read
byte_kept r b h e = rw (byte_read, lt-ltb r.lines max_lines h, e)

pub byte_silent : (r : Reading) (b : ℕ) → r.lines < max_lines → eqb b 10 ≡ false → byte_text r b ≡ []
unfolding byte_text
byte_silent r b h e = rw (byte_text, lt-ltb r.lines max_lines h, e)

pub byte_ends : (r : Reading) (b : ℕ) → r.lines < max_lines → eqb b 10 ≡ true → byte_read r b ≡ ended r
unfolding byte_read
byte_ends r b h e = rw (byte_read, lt-ltb r.lines max_lines h, e)

pub byte_prints : (r : Reading) (b : ℕ) → r.lines < max_lines → eqb b 10 ≡ true → byte_text r b ≡ ended_text r
unfolding byte_text
byte_prints r b h e = rw (byte_text, lt-ltb r.lines max_lines h, e)

pub byte_past : (r : Reading) (b : ℕ) → max_lines ≤ r.lines → byte_read r b ≡ r
unfolding byte_read
byte_past r b h = rw (byte_read, le-ltb r.lines max_lines h)

pub byte_past_silent : (r : Reading) (b : ℕ) → max_lines ≤ r.lines → byte_text r b ≡ []
unfolding byte_text
byte_past_silent r b h = rw (byte_text, le-ltb r.lines max_lines h)

-- ---- bytes of one line are kept and print nothing

pub line_kept : (r : Reading) (l : List ℕ) → r.lines < max_lines → NoFeed l → fed r l ≡ reading r.state r.lines (kept_all r.line l)
unfolding fed kept_all
line_kept r [] h n = refl
line_kept r (b ∷ l) h n =
    ap (λ (s : Reading). fed s l) (byte_kept r b h n.0) ∙ line_kept (reading r.state r.lines (kept r.line b)) l h n.1

pub line_silent : (r : Reading) (l : List ℕ) → r.lines < max_lines → NoFeed l → fed_text r l ≡ []
unfolding fed_text
line_silent r [] h n = refl
line_silent r (b ∷ l) h n =
    rw (byte_silent r b h n.0, byte_kept r b h n.0) (line_silent (reading r.state r.lines (kept r.line b)) l h n.1)

-- ---- a line feed ends the line

pub line_feed : (r : Reading) → r.lines < max_lines → (fed r (10 ∷ []) ≡ ended r) × (fed_text r (10 ∷ []) ≡ ended_text r)
unfolding fed fed_text
line_feed r h = (byte_ends r 10 h refl, rw (byte_prints r 10 h refl) (append-nil (ended_text r)))

-- ---- after the last line that is read nothing is kept, and nothing printed

pub past_kept : (r : Reading) (l : List ℕ) → max_lines ≤ r.lines → fed r l ≡ r
unfolding fed
past_kept r [] h = refl
past_kept r (b ∷ l) h = rw (byte_past r b h) (past_kept r l h)

pub past_silent : (r : Reading) (l : List ℕ) → max_lines ≤ r.lines → fed_text r l ≡ []
unfolding fed_text
past_silent r [] h = refl
past_silent r (b ∷ l) h = rw (byte_past_silent r b h, byte_past r b h) (past_silent r l h)

-- ---- what is kept of a line

pub kept_more : (l : List ℕ) (b : ℕ) → length l ≤ 120 → kept l b ≡ l ++ (b ∷ [])
unfolding kept
kept_more l b h = rw (kept, le-leb, h)

pub kept_no_more : (l : List ℕ) (b : ℕ) → 120 < length l → kept l b ≡ l
unfolding kept
kept_no_more l b h = rw (kept, lt-leb, h)

pub kept_all_append : (l a b : List ℕ) → kept_all l (a ++ b) ≡ kept_all (kept_all l a) b
unfolding kept_all
kept_all_append l [] b = refl
kept_all_append l (x ∷ a) b = kept_all_append (kept l x) a b

pub no_feed_append : (a b : List ℕ) → NoFeed a → NoFeed b → NoFeed (a ++ b)
no_feed_append [] b h k = k
no_feed_append (x ∷ a) b h k = (h.0, no_feed_append a b h.1 k)
