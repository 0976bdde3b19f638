-- The datagram form and its reader: the form of every datagram that is well formed is read back as that datagram, and no
-- other bytes are.
use mathlib.Core.Path.{◌≡◌, refl, sym, ap, ◌∙◌}
use mathlib.Core.List.{List, [], ◌∷◌, ◌++◌}
use mathlib.Core.Bool.{Bool, true, false, not, ◌&&◌}
use mathlib.Core.Option.{Option, none, some}
use Prim.Native.Nat.{ℕ, zero, suc, ◌+◌, ◌≤◌}
use native.Mathlib.Omega.{arith}
use lib.Dec.{eqb, leb}
use lib.ListN.{length, get_or, take, drop, length-drop, take-append-drop}
use lib.Seq.{get_or-drop, drop-drop, take_all, length-take-le}
use borrow.Author.Tests.{eqb-true, leb-true, le-leb}
use Rattle.entries.specs.Entries.{Entry}
use Rattle.table.specs.Form.{bucket_size, within, fits, bucket_bytes, read_bucket}
use Rattle.table.proofs.Fitting.{within_parts}
use Rattle.table.proofs.Reading as bucket
use Rattle.bucket.specs.Answers.{numbered}
use Rattle.fields.specs.Form.{Datagram, Version, version, max_two, max_four, is_vote, carries, length_of, addressed, rounded, settled, same_election, versioned, well_formed, table_fits, big, header_bytes, version_bytes, full_bytes, datagram_bytes, carried, number, field, headed, version_in, taken, checked, read_datagram, write_datagram}
use Rattle.fields.proofs.Rules.{and_parts, plain_length, full_length, plain_bytes, full_bytes_lem}
use Rattle.fields.proofs.Parsing.{take_cells, read_plain, read_full, checked_right}
use Rattle.fields.proofs.Numbers.{Bytes, number_big, big_number}

-- ---- what is known of a datagram that is well formed

record Right (d : Datagram) : Type 0 where
  known : within 9 d.kind ≡ true
  address : addressed d.from d.to d.bucket d.election ≡ true
  rounds : rounded d.kind d.bucket d.round ≡ true
  versions : versioned d ≡ true

right_parts : (d : Datagram) → well_formed d ≡ true → Right d
unfolding well_formed
right_parts d h =
    let (p, v) = and_parts _ (versioned d) h in
    let (q, r) = and_parts _ (rounded d.kind d.bucket d.round) p in
    let (k, a) = and_parts (within 9 d.kind) (addressed d.from d.to d.bucket d.election) q in
    record { known = k; address = a; rounds = r; versions = v }

-- the numbers of a header fit their fields
election_fits : (d : Datagram) → well_formed d ≡ true → d.election ≤ max_two
unfolding addressed
election_fits d h =
    let (p, e) = and_parts (not (eqb d.from d.to) && leb d.from 6 && leb d.to 6 && leb d.bucket 7) (within max_two d.election) (right_parts d h).address in
    (within_parts max_two d.election e).1

round_fits : (d : Datagram) → well_formed d ≡ true → d.round ≤ max_four
unfolding rounded
round_fits d h = go (is_vote d.kind) refl
  where
    go : (p : Bool) → is_vote d.kind ≡ p → d.round ≤ max_four
    go true p =
        let (b, r) = and_parts (eqb d.bucket 0) (eqb d.round 0) (rw (rounded, p) at (right_parts d h).rounds) in
        omega (arith, eqb-true d.round 0 r)
    go false p = (within_parts max_four d.round (rw (rounded, p) at (right_parts d h).rounds)).1

-- and so do those of a version that is carried
version_fits : (d : Datagram) → carries d.kind ≡ true → well_formed d ≡ true → (d.version.election ≤ max_two) × (d.version.counter ≤ max_four)
unfolding versioned settled
version_fits d c h = go (eqb d.version.election 0) refl
  where
    s : settled d.version (length d.table) ≡ true
    s = (and_parts (same_election d.kind d.election d.version) _ (rw (versioned, c) at (right_parts d h).versions)).1

    go : (p : Bool) → eqb d.version.election 0 ≡ p → (d.version.election ≤ max_two) × (d.version.counter ≤ max_four)
    go true p =
        let (z, t) = and_parts (eqb d.version.counter 0) _ (rw (settled, p) at s) in
        (omega (arith, eqb-true d.version.election 0 p), omega (arith, eqb-true d.version.counter 0 z))
    go false p =
        let (e, n) = and_parts (leb d.version.election max_two) _ (rw (settled, p) at s) in
        (leb-true d.version.election max_two e, (within_parts max_four d.version.counter n).1)

-- ---- what is written is read back

module _ (d : Datagram) (h : well_formed d ≡ true) (x : List ℕ) where
  election_back : field 4 2 (header_bytes d ++ x) ≡ d.election
  unfolding field header_bytes big
  election_back = number_big 2 d.election (omega (arith, election_fits d h))

  round_back : field 6 4 (header_bytes d ++ x) ≡ d.round
  unfolding field header_bytes big
  round_back = number_big 4 d.round (omega (arith, round_fits d h))

  header_back : (v : Version) (t : List Entry) → headed (header_bytes d ++ x) v t ≡ record { kind = d.kind; from = d.from; to = d.to; bucket = d.bucket; election = d.election; round = d.round; version = v; table = t }
  unfolding headed header_bytes
  header_back v t = rw (election_back, round_back)

  version_back : (c : carries d.kind ≡ true) → version_in (header_bytes d ++ (version_bytes d.version ++ x)) ≡ d.version
  unfolding version_in field header_bytes version_bytes big
  version_back c =
      let (e, n) = version_fits d c h in
      let p = number_big 2 d.version.election (omega arith) in
      let q = number_big 4 d.version.counter (omega arith) in
      rw (p, q)

length_header : (d : Datagram) → length (header_bytes d) ≡ 10
unfolding header_bytes big
length_header d = refl

length_full : (d : Datagram) → fits 4 16 d.table ≡ true → length (full_bytes d) ≡ 129
unfolding full_bytes header_bytes version_bytes big bucket_size
length_full d f = omega (arith, bucket.length_bucket 4 16 d.table f)

first_byte : (d : Datagram) (x : List ℕ) → get_or (header_bytes d ++ x) 0 0 ≡ d.kind
unfolding header_bytes
first_byte d x = refl

bucket_at : (d : Datagram) → drop 16 (full_bytes d) ≡ bucket_bytes 4 16 d.table
unfolding full_bytes header_bytes version_bytes big
bucket_at d = refl

full_back : (d : Datagram) → carries d.kind ≡ true → well_formed d ≡ true → fits 4 16 d.table ≡ true → read_datagram (full_bytes d) ≡ taken d
unfolding full_bytes
full_back d c h f =
    let y = bucket_bytes 4 16 d.table in
    let k = ap carries (first_byte d (version_bytes d.version ++ y)) ∙ c in
    let t = ap (read_bucket 4 16) (bucket_at d) ∙ bucket.reads_back 4 16 d.table f in
    let same : headed (full_bytes d) (version_in (full_bytes d)) d.table ≡ d = rw (version_back d h y c) (header_back d h (version_bytes d.version ++ y) d.version d.table) in
    read_full (full_bytes d) k d.table (length_full d f) t ∙ ap checked same ∙ checked_right d h

-- without what it does not carry
plainly : Datagram → Datagram
plainly d = record { kind = d.kind; from = d.from; to = d.to; bucket = d.bucket; election = d.election; round = d.round; version = version 0 0; table = [] }

plainly_right : (d : Datagram) → carries d.kind ≡ false → well_formed (plainly d) ≡ well_formed d
unfolding plainly well_formed versioned
plainly_right d c = rw (well_formed, versioned, c)

plain_back : (d : Datagram) → carries d.kind ≡ false → well_formed d ≡ true → read_datagram (header_bytes d) ≡ taken (plainly d)
unfolding header_bytes big plainly
plain_back d c h =
    read_plain (header_bytes d) c (length_header d) ∙ ap checked (header_back d h [] (version 0 0) [])
    ∙ checked_right (plainly d) (plainly_right d c ∙ h)

-- a datagram that is well formed is read back from its form, with what its kind carries
pub reads_back : (d : Datagram) → well_formed d ≡ true → table_fits d ≡ true → read_datagram (datagram_bytes d) ≡ taken (carried d)
unfolding table_fits carried plainly
reads_back d h f = go (carries d.kind) refl
  where
    go : (p : Bool) → carries d.kind ≡ p → read_datagram (datagram_bytes d) ≡ taken (carried d)
    go true p = rw (full_bytes_lem d p, carried, p) (full_back d p h (rw (table_fits, p) at f))
    go false p = rw (plain_bytes d p, carried, p) (plain_back d p h)

-- ---- what is read is what would be written

first_bytes : (n : ℕ) (l : List ℕ) → Bytes l → Bytes (take n l)
first_bytes zero l h i = omega arith
first_bytes (suc n) [] h i = omega arith
first_bytes (suc n) (a ∷ l) h zero = h 0
first_bytes (suc n) (a ∷ l) h (suc i) = first_bytes n l (λ j. h (suc j)) i

part_bytes : (at n : ℕ) (b : List ℕ) → Bytes b → Bytes (take n (drop at b))
part_bytes at n b h = first_bytes n (drop at b) (λ i. rw (get_or-drop at b i 0) (h (at + i)))

-- the n bytes from `at` on are those of the number in them
field_written : (at n : ℕ) (b : List ℕ) → Bytes b → at + n ≤ length b → big n (field at n b) ≡ take n (drop at b)
unfolding field
field_written at n b h l =
    let m : length (take n (drop at b)) ≡ n = length-take-le n (drop at b) (rw (length-drop at b) (omega arith)) in
    ap (λ k. big k (number (take n (drop at b)))) (sym m) ∙ big_number (take n (drop at b)) (part_bytes at n b h)

header_written : (b : List ℕ) (v : Version) (t : List Entry) → Bytes b → 10 ≤ length b → header_bytes (headed b v t) ≡ take 10 b
unfolding header_bytes headed
header_written b v t h l =
    rw (field_written 4 2 b h (omega arith), field_written 6 4 b h l, take_cells 2 4 b (omega arith), take_cells 4 6 b l)
    (sym (take_cells 10 0 b l))

version_written : (b : List ℕ) → Bytes b → 16 ≤ length b → version_bytes (version_in b) ≡ take 6 (drop 10 b)
unfolding version_bytes version_in
version_written b h l =
    rw (field_written 10 2 b h (omega arith), field_written 12 4 b h l, take_cells 2 10 b (omega arith), take_cells 4 12 b l)
    (sym (take_cells 6 10 b l))

-- what is known of bytes that are read
pub record Taken (b : List ℕ) (d : Datagram) : Type 0 where
  pub form : b ≡ datagram_bytes d
  pub right : well_formed d ≡ true
  pub table : table_fits d ≡ true
  pub kept : carried d ≡ d

was_checked : (x d : Datagram) → checked x ≡ taken d → (x ≡ d) × (well_formed d ≡ true)
unfolding checked
was_checked x d e = go (well_formed x) refl
  where
    go : (p : Bool) → well_formed x ≡ p → (x ≡ d) × (well_formed d ≡ true)
    go true p = let same : x ≡ d = cc (rw (checked, p) at e) in (same, ap well_formed (sym same) ∙ p)
    go false p = let z : ◌≡◌ {A = ℕ} 0 1 = cc (rw (checked, p) at e) in absurd (omega arith)

module _ (b : List ℕ) (h : Bytes b) (d : Datagram) where
  plain_taken : carries (get_or b 0 0) ≡ false → length b ≡ 10 → checked (headed b (version 0 0) []) ≡ taken d → Taken b d
  unfolding headed table_fits carried
  plain_taken c l e =
      let x = headed b (version 0 0) [] in
      let (same, w) = was_checked x d e in
      let form : b ≡ datagram_bytes x = sym (plain_bytes x c ∙ header_written b (version 0 0) [] h (omega arith) ∙ take_all 10 b (omega arith)) in
      record {
        form = form ∙ ap datagram_bytes same;
        right = w;
        table = ap table_fits (sym same) ∙ rw (table_fits, c);
        kept = ap carried (sym same) ∙ rw (carried, c) same;
      }

  full_taken : (t : List Entry) → carries (get_or b 0 0) ≡ true → length b ≡ 129 → read_bucket 4 16 (drop 16 b) ≡ some t → checked (headed b (version_in b) t) ≡ taken d → Taken b d
  unfolding headed full_bytes table_fits carried
  full_taken t c l r e =
      let x = headed b (version_in b) t in
      let (same, w) = was_checked x d e in
      let (part, f) = bucket.one_form 4 16 (drop 16 b) t r in
      let first : take 10 b ++ (take 6 (drop 10 b) ++ drop 16 b) ≡ b = rw (← drop-drop 6 10 b, take-append-drop 6 (drop 10 b)) (take-append-drop 10 b) in
      let whole : full_bytes x ≡ b = rw (header_written b (version_in b) t h (omega arith), version_written b h (omega arith), ← part) first in
      record {
        form = sym (full_bytes_lem x c ∙ whole) ∙ ap datagram_bytes same;
        right = w;
        table = ap table_fits (sym same) ∙ rw (table_fits, c) f;
        kept = ap carried (sym same) ∙ rw (carried, c) same;
      }

-- bytes that are read are the form of the datagram that is read
pub one_form : (b : List ℕ) (d : Datagram) → Bytes b → read_datagram b ≡ taken d → Taken b d
unfolding read_datagram
one_form b d h e = go (eqb (length b) (length_of (get_or b 0 0))) refl (carries (get_or b 0 0)) refl (read_bucket 4 16 (drop 16 b)) refl
  where
    go : (p : Bool) → eqb (length b) (length_of (get_or b 0 0)) ≡ p → (q : Bool) → carries (get_or b 0 0) ≡ q → (r : Option (List Entry)) → read_bucket 4 16 (drop 16 b) ≡ r → Taken b d
    go true p true q (some t) r = full_taken b h d t q (eqb-true (length b) (length_of (get_or b 0 0)) p ∙ full_length (get_or b 0 0) q) r (rw (read_datagram, p, q, r) at e)
    go true p true q none r = let z : ◌≡◌ {A = ℕ} 0 1 = cc (rw (read_datagram, p, q, r) at e) in absurd (omega arith)
    go true p false q r s = plain_taken b h d q (eqb-true (length b) (length_of (get_or b 0 0)) p ∙ plain_length (get_or b 0 0) q) (rw (read_datagram, p, q) at e)
    go false p q c r s = let z : ◌≡◌ {A = ℕ} 0 1 = cc (rw (read_datagram, p) at e) in absurd (omega arith)

-- a datagram has one form: bytes that are read as the same datagram are the same
pub same_form : (a b : List ℕ) (d : Datagram) → Bytes a → Bytes b → read_datagram a ≡ taken d → read_datagram b ≡ taken d → a ≡ b
same_form a b d h k e f = (one_form a d h e).form ∙ sym (one_form b d k f).form

-- ---- the writer's answer

length_form : (d : Datagram) → table_fits d ≡ true → length (datagram_bytes d) ≡ length_of d.kind
unfolding table_fits
length_form d f = go (carries d.kind) refl
  where
    go : (p : Bool) → carries d.kind ≡ p → length (datagram_bytes d) ≡ length_of d.kind
    go true p = rw (full_bytes_lem d p, full_length d.kind p) (length_full d (rw (table_fits, p) at f))
    go false p = rw (plain_bytes d p, plain_length d.kind p) (length_header d)

-- bytes that are read are written again, over as many of the lent ones
pub written_again : (b : List ℕ) (d : Datagram) (out : List ℕ) → Bytes b → read_datagram b ≡ taken d → length b ≤ length out → write_datagram d out ≡ numbered 0 (b ++ drop (length b) out)
unfolding write_datagram
written_again b d out h e l =
    let t = one_form b d h e in
    let n : length_of d.kind ≡ length b = sym (length_form d t.table) ∙ ap length (sym t.form) in
    rw (write_datagram, t.table, t.right, n, le-leb (length b) (length out) l, n, ← t.form)
