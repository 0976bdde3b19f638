-- What the answers of the calls stand for, case by case, and a datagram's bytes stored over lent ones.
use mathlib.Core.Path.{◌≡◌, refl, sym, ap, ◌∙◌}
use lib.Dec.{leb}
use mathlib.Core.List.{List, [], ◌∷◌, ◌++◌, append_assoc, append-nil}
use mathlib.Core.Logic.{◌⊎◌, inl, inr}
use mathlib.Core.Bool.{Bool, true, false, ◌&&◌}
use Prim.Native.Nat.{ℕ, ◌+◌, ◌-◌, ◌≤◌, ◌<◌}
use native.Mathlib.Omega.{arith}
use native.Mathlib.Numerals.{towards_suc}
use lib.ListN.{length, get_or, take, drop, length-drop}
use lib.Seq.{sets, sets-eq, take_at, drop_at, drop-drop}
use borrow.Author.Tests.{le-leb, lt-leb}
use Rattle.std.specs.Prelude.{Result, Ok, Err, IsOk}
use Rattle.std.specs.Int.{w16, w32, from_be_bytes}
use Rattle.entries.specs.declared.Decoded.{Decoded}
use Rattle.entries.specs.Decoded.{table_in}
use Rattle.table.specs.Form.{fits, bucket_bytes}
use Rattle.checks.specs.Tests.{sound_slots, sound}
use Rattle.bucket.specs.declared.WriteError.{WriteError}
use Rattle.bucket.specs.declared.WriteError.TheVariants as write_error
use Rattle.bucket.specs.Answers as bucket
use Rattle.bucket.specs.Answers.{numbered}
use Rattle.fields.specs.Form.{Datagram, Version, max_four, addressed, carries, well_formed, table_fits, big, number, field, header_bytes, version_bytes, full_bytes, Parsed, taken, refused, write_datagram}
use Rattle.fields.proofs.Numbers.{from_two, from_four}
use Rattle.fields.proofs.Parsing.{take_cells, tail_part, past_tail}
use Rattle.fields.proofs.Rules.{carries_write, carries_read, carries_none, plain_rules, and_parts, plain_length, full_length, plain_bytes, full_bytes_lem}
use Rattle.datagram.specs.declared.Datagram as code
use Rattle.datagram.specs.declared.ReadError.{ReadError}
use Rattle.datagram.specs.declared.ReadError.TheVariants.{BadBucket, BadDatagram}
use Rattle.datagram.specs.Answers.{meant, StandsFor, write_of}

-- ---- reading

pub stands_bucket : StandsFor (refused 13) (Err BadBucket)
stands_bucket = record { is = refl; sound = tt }

pub stands_datagram : StandsFor (refused 14) (Err BadDatagram)
stands_datagram = record { is = refl; sound = tt }

pub stands_taken : (d : code.Datagram) → sound d.table ≡ true → StandsFor (taken (meant d)) (Ok d)
stands_taken d s = record { is = refl; sound = s }

pub stands_too : {p q : Parsed} {r : Result code.Datagram ReadError} → StandsFor p r → p ≡ q → StandsFor q r
stands_too s e = record { is = s.is ∙ e; sound = s.sound }

-- the library's numbers of two and of four bytes
module _ (b : List ℕ) (at : ℕ) where
  pub two_read : at + 2 ≤ length b → from_be_bytes w16 (get_or b at 0 ∷ (get_or b (at + 1) 0 ∷ [])) ≡ field at 2 b
  unfolding field
  two_read h =
      let c : take 2 (drop at b) ≡ get_or b at 0 ∷ (get_or b (at + 1) 0 ∷ []) = simp towards_suc (take_cells 2 at b h) in
      from_two _ _ ∙ ap number (sym c)

  pub four_read : at + 4 ≤ length b → from_be_bytes w32 (get_or b at 0 ∷ (get_or b (at + 1) 0 ∷ (get_or b (at + 2) 0 ∷ (get_or b (at + 3) 0 ∷ [])))) ≡ field at 4 b
  unfolding field
  four_read h =
      let c : take 4 (drop at b) ≡ get_or b at 0 ∷ (get_or b (at + 1) 0 ∷ (get_or b (at + 2) 0 ∷ (get_or b (at + 3) 0 ∷ []))) = simp towards_suc (take_cells 4 at b h) in
      from_four _ _ _ _ ∙ ap number (sym c)

-- a table whose count is 0 can be written as it stands
pub empty_sound : (t : Decoded) → t.count ≡ 0 → sound t ≡ true
unfolding sound sound_slots
empty_sound t e = rw (sound, e, e)

-- ---- the rules of a kind

pub carries_either : (k : ℕ) → (k ≡ 4) ⊎ (k ≡ 8) → carries k ≡ true
carries_either k (inl h) = carries_write k h
carries_either k (inr h) = carries_read k h

-- a kind that carries neither a version nor a table, and has a round
pub plain_kind : (d : code.Datagram) → addressed d.from d.to d.bucket d.election ≡ true → 3 < d.kind → d.kind ≤ 9 → d.round ≤ max_four → (d.kind ≡ 4 → ⊥) → (d.kind ≡ 8 → ⊥) → well_formed (meant d) ≡ leb 1 d.round
unfolding meant
plain_kind d a l h r n m = sym (plain_rules (meant d) a l h r n m)

-- ---- bytes stored

-- the header, and the version behind it, stored over the first 10 and 16 bytes
pub header_stored : (d : Datagram) (out : List ℕ) → 10 ≤ length out → sets out 0 (header_bytes d) ≡ header_bytes d ++ drop 10 out
unfolding header_bytes big
header_stored d out h = sets-eq (header_bytes d) out 0 h

pub front_stored : (d : Datagram) (v : Version) (out : List ℕ) → 16 ≤ length out → sets (sets out 0 (header_bytes d)) 10 (version_bytes v) ≡ (header_bytes d ++ version_bytes v) ++ drop 16 out
unfolding header_bytes version_bytes big
front_stored d v out h = sets-eq (header_bytes d ++ version_bytes v) out 0 h

length_front : (d : Datagram) (v : Version) → length (header_bytes d ++ version_bytes v) ≡ 16
unfolding header_bytes version_bytes big
length_front d v = refl

-- what the bucket writer does to the part that it is lent
part_written : (t : Decoded) (part after : List ℕ) (n : ℕ) → (sound t && fits 4 16 (table_in t)) ≡ true → 113 ≤ length part → numbered n after ≡ bucket.write_of t part → after ≡ bucket_bytes 4 16 (table_in t) ++ drop 113 part
unfolding bucket.write_of
part_written t part after n f l e =
    let (p, q) = and_parts (sound t) (fits 4 16 (table_in t)) f in
    let w : bucket.write_of t part ≡ numbered 0 (bucket_bytes 4 16 (table_in t) ++ drop 113 part) = rw (bucket.write_of, p, q, le-leb 113 (length part) l) in
    ap (λ a. a.bytes) (e ∙ w)

-- and that it does: of the part from byte 16 on of a list as long as another
pub part_done : (t : Decoded) (out front after : List ℕ) (r : Result (Unit {0}) WriteError) → 129 ≤ length out → length front ≡ length out → (sound t && fits 4 16 (table_in t)) ≡ true → numbered (bucket.written_number r) after ≡ bucket.write_of t (take (length front - 16) (drop 16 front)) → IsOk r
unfolding bucket.write_of
part_done t out front after r n m f e =
    let part = take (length front - 16) (drop 16 front) in
    let l : 113 ≤ length part = rw (tail_part 16 front, length-drop 16 front) (omega arith) in
    let (p, q) = and_parts (sound t) (fits 4 16 (table_in t)) f in
    let w : bucket.write_of t part ≡ numbered 0 (bucket_bytes 4 16 (table_in t) ++ drop 113 part) = rw (bucket.write_of, p, q, le-leb 113 (length part) l) in
    go r (ap (λ a. a.number) (e ∙ w))
  where
    go : (r : Result (Unit {0}) WriteError) → bucket.written_number r ≡ 0 → IsOk r
    go (Ok u) z = refl
    go (Err write_error.Malformed) z = absurd (omega arith)
    go (Err write_error.Short) z = absurd (omega arith)

-- the whole, after the part from byte 16 on has come back
pub full_stored : (d : code.Datagram) (out front after : List ℕ) (n : ℕ) → 129 ≤ length out → (sound d.table && fits 4 16 (table_in d.table)) ≡ true → front ≡ sets (sets out 0 (header_bytes (meant d))) 10 (version_bytes (meant d).version) → numbered n after ≡ bucket.write_of d.table (take (length front - 16) (drop 16 front)) → take 16 front ++ (after ++ drop (length front - 16) (drop 16 front)) ≡ full_bytes (meant d) ++ drop 129 out
unfolding full_bytes meant
full_stored d out front after n l f w e =
    let x = header_bytes (meant d) in
    let y = version_bytes (meant d).version in
    let split : front ≡ (x ++ y) ++ drop 16 out = w ∙ front_stored (meant d) (meant d).version out (omega arith) in
    let first : take 16 front ≡ x ++ y = ap (take 16) split ∙ take_at (x ++ y) (drop 16 out) 16 (length_front (meant d) (meant d).version) in
    let rest : drop 16 front ≡ drop 16 out = ap (drop 16) split ∙ drop_at (x ++ y) (drop 16 out) 16 (length_front (meant d) (meant d).version) in
    let room : 113 ≤ length (drop 16 out) = rw (length-drop 16 out) (omega arith) in
    let part = part_written d.table (drop 16 out) after n f room (e ∙ ap (bucket.write_of d.table) (tail_part 16 front ∙ rest)) in
    rw (past_tail 16 front, append-nil after, first, part, drop-drop 113 16 out) (simp append_assoc)

-- ---- the writer's way

-- a sound table is judged by what it stands for alone
pub write_sound : (d : code.Datagram) (out : List ℕ) → sound d.table ≡ true → write_of d out ≡ write_datagram (meant d) out
unfolding write_of
write_sound d out s = go (carries d.kind) refl
  where
    go : (p : Bool) → carries d.kind ≡ p → write_of d out ≡ write_datagram (meant d) out
    go true p = rw (write_of, p, s)
    go false p = rw (write_of, p)

module _ (d : code.Datagram) (out : List ℕ) where
  module _ (c : carries d.kind ≡ false) where
    fits_none : table_fits (meant d) ≡ true
    unfolding table_fits meant
    fits_none = rw (table_fits, c)

    pub write_plain_wrong : well_formed (meant d) ≡ false → numbered 14 out ≡ write_of d out
    unfolding write_of write_datagram
    write_plain_wrong h = rw (write_of, c, write_datagram, fits_none, h)

    module _ (h : well_formed (meant d) ≡ true) where
      pub write_plain_short : length out < 10 → numbered 15 out ≡ write_of d out
      unfolding write_of write_datagram meant
      write_plain_short l = rw (write_of, c, write_datagram, fits_none, h, plain_length d.kind c, lt-leb 10 (length out) l)

      pub write_plain_done : (after : List ℕ) → 10 ≤ length out → after ≡ sets out 0 (header_bytes (meant d)) → numbered 0 after ≡ write_of d out
      unfolding write_of write_datagram meant
      write_plain_done after l e =
          rw (write_of, c, write_datagram, fits_none, h, plain_length d.kind c, le-leb 10 (length out) l, plain_length d.kind c, plain_bytes (meant d) c)
          (ap (numbered 0) (e ∙ header_stored (meant d) out l))

  module _ (c : carries d.kind ≡ true) where
    pub write_unfit : (sound d.table && fits 4 16 (table_in d.table)) ≡ false → numbered 13 out ≡ write_of d out
    unfolding write_of write_datagram table_fits meant
    write_unfit f = go (sound d.table) refl
      where
        go : (p : Bool) → sound d.table ≡ p → numbered 13 out ≡ write_of d out
        go true p = rw (write_of, c, p, write_datagram, table_fits, c, rw p at f)
        go false p = rw (write_of, c, p)

    module _ (f : (sound d.table && fits 4 16 (table_in d.table)) ≡ true) where
      was_sound : sound d.table ≡ true
      was_sound = (and_parts (sound d.table) _ f).0

      fits_carried : table_fits (meant d) ≡ true
      unfolding table_fits meant
      fits_carried = rw (table_fits, c) (and_parts (sound d.table) _ f).1

      pub write_full_wrong : well_formed (meant d) ≡ false → numbered 14 out ≡ write_of d out
      unfolding write_of write_datagram
      write_full_wrong h = rw (write_of, c, was_sound, write_datagram, fits_carried, h)

      module _ (h : well_formed (meant d) ≡ true) where
        pub write_full_short : length out < 129 → numbered 15 out ≡ write_of d out
        unfolding write_of write_datagram meant
        write_full_short l = rw (write_of, c, was_sound, write_datagram, fits_carried, h, full_length d.kind c, lt-leb 129 (length out) l)

        pub write_full_done : (after : List ℕ) → 129 ≤ length out → after ≡ full_bytes (meant d) ++ drop 129 out → numbered 0 after ≡ write_of d out
        unfolding write_of write_datagram meant
        write_full_done after l e = rw (write_of, c, was_sound, write_datagram, fits_carried, h, full_length d.kind c, le-leb 129 (length out) l, full_length d.kind c, full_bytes_lem (meant d) c, e)
