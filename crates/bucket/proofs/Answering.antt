-- The definitions of reading and writing lent bytes, case by case.
use mathlib.Core.Path.{◌≡◌, refl, sym, ap, ◌∙◌}
use mathlib.Core.List.{List, [], ◌∷◌, ◌++◌, append-nil}
use mathlib.Core.Bool.{Bool, true, false, ◌&&◌}
use mathlib.Core.Option.{none, some}
use Prim.Native.Nat.{ℕ, ◌≤◌, ◌<◌}
use lib.ListN.{length, take, drop}
use borrow.Author.Tests.{le-leb, lt-leb}
use Rattle.std.specs.Prelude.{Ok, Err}
use Rattle.entries.specs.declared.Slot.{Slot}
use Rattle.entries.specs.declared.Decoded.{Decoded}
use Rattle.entries.specs.Decoded.{table_in}
use Rattle.checks.specs.Tests.{sound_slots, sound}
use Rattle.table.specs.Form.{bucket_size, fits, bucket_bytes, table_of, read_bucket, same_bytes, read_number}
use Rattle.table.specs.Steps.{Bounded, Decodes}
use Rattle.table.proofs.Reading.{other_length, read_taken, read_unfit, bytes_same}
use Rattle.bucket.specs.declared.Malformed.{Malformed}
use Rattle.bucket.specs.Answers.{numbered, Read, write_of}

-- ---- reading

pub reading_refused : (b : List ℕ) (e : Malformed) → read_bucket 4 16 b ≡ none → Read b (Err e)
unfolding read_number
reading_refused b e h = record { is = sym h; number = rw (read_number, h); sound = tt }

-- bytes of another length are refused
pub reading_of_other_length : (b : List ℕ) (e : Malformed) → (length b ≡ 113 → ⊥) → Read b (Err e)
unfolding bucket_size
reading_of_other_length b e h = reading_refused b e (other_length 4 16 b h)

-- a decoded table is sound
bounded_sound : (l : List Slot) → Bounded l → sound_slots l ≡ true
unfolding sound_slots
bounded_sound [] w = refl
bounded_sound (s ∷ l) w = rw (sound_slots, le-leb s.key.len 8 w.0, le-leb s.value.len 16 w.1.0) (bounded_sound l w.1.1)

decoded_sound : (b : List ℕ) (t : Decoded) → Decodes b t → sound t ≡ true
unfolding sound
decoded_sound b t d = rw (sound, le-leb t.count 4 d.count) (bounded_sound (take t.count t.slots) d.lengths)

-- the reader's way: the decoded table is encoded again, and the two are compared
module _ (b : List ℕ) (t : Decoded) (d : Decodes b t) where
  pub reading_unfit : (e : Malformed) → fits 4 16 (table_in t) ≡ false → Read b (Err e)
  reading_unfit e f = reading_refused b e (read_unfit 4 16 b (ap (fits 4 16) (sym d.table) ∙ f))

  module _ (f : fits 4 16 (table_in t) ≡ true) where
    fit : fits 4 16 (table_of 4 16 b) ≡ true
    fit = ap (fits 4 16) (sym d.table) ∙ f

    form : bucket_bytes 4 16 (table_in t) ++ [] ≡ bucket_bytes 4 16 (table_of 4 16 b)
    form = append-nil (bucket_bytes 4 16 (table_in t)) ∙ ap (bucket_bytes 4 16) d.table

    pub reading_same : b ≡ bucket_bytes 4 16 (table_in t) ++ [] → Read b (Ok t)
    unfolding read_number
    reading_same e =
        let r = read_taken 4 16 b fit (e ∙ form) in
        record { is = ap some d.table ∙ sym r; number = rw (read_number, r); sound = decoded_sound b t d }

    pub reading_other : (e : Malformed) → (b ≡ bucket_bytes 4 16 (table_in t) ++ [] → ⊥) → Read b (Err e)
    unfolding read_bucket
    reading_other e h = go (same_bytes b (bucket_bytes 4 16 (table_of 4 16 b))) refl
      where
        go : (p : Bool) → same_bytes b (bucket_bytes 4 16 (table_of 4 16 b)) ≡ p → Read b (Err e)
        go true p = absurd (h (bytes_same b (bucket_bytes 4 16 (table_of 4 16 b)) p ∙ sym form))
        go false p = reading_refused b e (rw (read_bucket, fit, p))

-- ---- writing

module _ (t : Decoded) (out : List ℕ) where
  pub write_unfit : (sound t && fits 4 16 (table_in t)) ≡ false → numbered 13 out ≡ write_of t out
  unfolding write_of
  write_unfit h = go (sound t) refl (fits 4 16 (table_in t)) refl
    where
      go : (p : Bool) → sound t ≡ p → (q : Bool) → fits 4 16 (table_in t) ≡ q → numbered 13 out ≡ write_of t out
      go true p true q = cc (rw (p, q) at h)
      go true p false q = rw (write_of, p, q)
      go false p q r = rw (write_of, p)

  module _ (h : (sound t && fits 4 16 (table_in t)) ≡ true) where
    parts : (sound t ≡ true) × (fits 4 16 (table_in t) ≡ true)
    parts = go (sound t) (fits 4 16 (table_in t)) h
      where
        go : (p q : Bool) → (p && q) ≡ true → (p ≡ true) × (q ≡ true)
        go true q e = (refl, e)
        go false q e = (cc)

    pub write_short : length out < 113 → numbered 15 out ≡ write_of t out
    unfolding write_of
    write_short l = rw (write_of, parts.0, parts.1, lt-leb 113 (length out) l)

    pub write_done : (after : List ℕ) → 113 ≤ length out → after ≡ bucket_bytes 4 16 (table_in t) ++ drop 113 out → numbered 0 after ≡ write_of t out
    unfolding write_of
    write_done after l e = rw (write_of, parts.0, parts.1, le-leb 113 (length out) l, e)
