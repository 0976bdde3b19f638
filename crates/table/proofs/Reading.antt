-- The bucket form and its reader: the form of every table that fits is read back as that table, and no other bytes are.
use mathlib.Core.Path.{◌≡◌, refl, sym, ap, ◌∙◌}
use mathlib.Core.List.{List, [], ◌∷◌, ◌++◌, append_assoc}
use mathlib.Core.Bool.{Bool, true, false}
use mathlib.Core.Option.{Option, none, some}
use Prim.Native.Nat.{ℕ, suc, ◌≤◌, ◌+◌, ◌*◌, ◌-◌, min}
use native.Mathlib.Omega.{arith}
use native.Mathlib.Nat.{mul-le-mul_right}
use native.Mathlib.Numerals.{one-add}
use lib.ListN.{length, replicate, length-append, length-replicate}
use lib.Seq.{take-append_seam, drop-append_seam, drop-append-add, drop_at}
use Rattle.std.specs.declared.cmp.Ordering.{Ordering}
use Rattle.std.specs.declared.cmp.Ordering.TheVariants.{Less, Equal, Greater}
use Rattle.entries.specs.Entries.{Entry, order}
use Rattle.table.specs.Form.{max_key, bucket_size, sized, fits, header, body, packed, bucket_bytes, entries_of, table_of, same_bytes, read_bucket}
use Rattle.entries.proofs.Comparison.{order_refl, order_same}
use Rattle.table.proofs.Fitting.{sized_parts, fits_parts}

-- no key is longer than 8 bytes and no value longer than `long`; lengths of zero count too
abbrev pub Capped : ℕ → List Entry → Type 0
Capped long [] = Unit {0}
Capped long (e ∷ t) = (length e.key ≤ max_key) × ((length e.value ≤ long) × Capped long t)

pub sized_capped : (long : ℕ) (t : List Entry) → sized long t ≡ true → Capped long t
sized_capped long [] h = tt
sized_capped long (e ∷ t) h =
    let s = sized_parts long e t h in
    (s.key_top, (s.value_top, sized_capped long t s.others))

-- ---- lengths

pub length_header : (at : ℕ) (t : List Entry) → length (header at t) ≡ 4 * length t
unfolding header
length_header at [] = refl
length_header at (e ∷ t) = omega (arith, length_header (at + length e.key + length e.value) t)

pub length_body : (long : ℕ) (t : List Entry) → Capped long t → length (body t) ≤ length t * (max_key + long)
unfolding body
length_body long [] c = omega arith
length_body long (e ∷ t) c =
    simp length-append (omega (arith, c.0, c.1.0, length_body long t c.1.1))

pub length_packed : (t : List Entry) → length (packed t) ≡ 1 + 4 * length t + length (body t)
unfolding packed
length_packed t = simp (length-append, length_header) (omega arith)

-- a table's form is as long as its room says
pub length_bucket_capped : (most long : ℕ) (t : List Entry) → length t ≤ most → Capped long t → length (bucket_bytes most long t) ≡ bucket_size most long
unfolding bucket_bytes bucket_size
length_bucket_capped most long t n c =
    simp (length-append, length-replicate, length_packed)
    (omega (arith, length_body long t c, mul-le-mul_right (max_key + long) n))

pub length_bucket : (most long : ℕ) (t : List Entry) → fits most long t ≡ true → length (bucket_bytes most long t) ≡ bucket_size most long
length_bucket most long t h =
    let f = fits_parts most long t h in
    length_bucket_capped most long t f.few (sized_capped long t f.sizes)

-- ---- reading

-- the entries that a header and a body stand for are those that they were made of
entries_back : (long at : ℕ) (t : List Entry) (x y : List ℕ) → Capped long t → entries_of long (length t) (header at t ++ x) (body t ++ y) ≡ t
unfolding header body entries_of
entries_back long at [] x y c = refl
entries_back long at (e ∷ t) x y c =
    let k : min max_key (length e.key) ≡ length e.key = omega (arith, c.0) in
    let v : min long (length e.value) ≡ length e.value = omega (arith, c.1.0) in
    let ih = entries_back long (at + length e.key + length e.value) t x y c.1.1 in
    simp (k, v, append_assoc, take-append_seam, drop-append_seam, drop-append-add, ih)

-- the table that a form stands for, whatever follows it
pub table_back : (most long : ℕ) (t : List Entry) (z : List ℕ) → length t ≤ most → Capped long t → table_of most long (packed t ++ z) ≡ t
unfolding table_of packed
table_back most long t z n c =
    let m : min most (length t) ≡ length t = omega arith in
    let at = suc (4 * length t) in
    rw (table_of, m, one-add (4 * length t), append_assoc (header at t) (body t) z, drop_at (header at t) (body t ++ z) (4 * length t) (length_header at t))
    (entries_back long at t (body t ++ z) z c)

pub same_bytes_lem : (l : List ℕ) → same_bytes l l ≡ true
unfolding same_bytes
same_bytes_lem l = rw (same_bytes, order_refl l)

pub bytes_same : (a b : List ℕ) → same_bytes a b ≡ true → a ≡ b
unfolding same_bytes
bytes_same a b h = go (order a b) refl
  where
    go : (o : Ordering) → order a b ≡ o → a ≡ b
    go Less k = cc (rw (same_bytes, k) at h)
    go Equal k = order_same a b k
    go Greater k = cc (rw (same_bytes, k) at h)

-- what is read of bytes, as the two tests say
pub read_taken : (most long : ℕ) (b : List ℕ) → fits most long (table_of most long b) ≡ true → b ≡ bucket_bytes most long (table_of most long b) → read_bucket most long b ≡ some (table_of most long b)
unfolding read_bucket
read_taken most long b f e =
    let s : same_bytes b (bucket_bytes most long (table_of most long b)) ≡ true = ap (same_bytes b) (sym e) ∙ same_bytes_lem b in
    rw (read_bucket, f, s)

pub read_unfit : (most long : ℕ) (b : List ℕ) → fits most long (table_of most long b) ≡ false → read_bucket most long b ≡ none
unfolding read_bucket
read_unfit most long b f = rw (read_bucket, f)

-- the form of a table that fits stands for that table, and is read as it
pub table_of_form : (most long : ℕ) (t : List Entry) → fits most long t ≡ true → table_of most long (bucket_bytes most long t) ≡ t
unfolding bucket_bytes
table_of_form most long t h =
    let f = fits_parts most long t h in
    table_back most long t (replicate (bucket_size most long - length (packed t)) 0) f.few (sized_capped long t f.sizes)

pub reads_back : (most long : ℕ) (t : List Entry) → fits most long t ≡ true → read_bucket most long (bucket_bytes most long t) ≡ some t
reads_back most long t h =
    let e = table_of_form most long t h in
    read_taken most long (bucket_bytes most long t) (ap (fits most long) e ∙ h) (ap (bucket_bytes most long) (sym e)) ∙ ap some e

-- bytes that are read are the form of the table that is read, and it fits: a table has one form, and no other bytes are taken
pub one_form : (most long : ℕ) (b : List ℕ) (t : List Entry) → read_bucket most long b ≡ some t → (b ≡ bucket_bytes most long t) × (fits most long t ≡ true)
unfolding read_bucket
one_form most long b t h = go (fits most long (table_of most long b)) refl (same_bytes b (bucket_bytes most long (table_of most long b))) refl
  where
    go : (p : Bool) → fits most long (table_of most long b) ≡ p → (q : Bool) → same_bytes b (bucket_bytes most long (table_of most long b)) ≡ q → (b ≡ bucket_bytes most long t) × (fits most long t ≡ true)
    go true p true q =
        let same : table_of most long b ≡ t = cc (rw (read_bucket, p, q) at h) in
        (bytes_same b _ q ∙ ap (bucket_bytes most long) same, ap (fits most long) (sym same) ∙ p)
    go true p false q = let z : ◌≡◌ {A = ℕ} 0 1 = cc (rw (read_bucket, p, q) at h) in absurd (omega arith)
    go false p q c = let z : ◌≡◌ {A = ℕ} 0 1 = cc (rw (read_bucket, p) at h) in absurd (omega arith)

-- bytes of another length are not taken
pub other_length : (most long : ℕ) (b : List ℕ) → (length b ≡ bucket_size most long → ⊥) → read_bucket most long b ≡ none
other_length most long b h = go (read_bucket most long b) refl
  where
    go : (r : Option (List Entry)) → read_bucket most long b ≡ r → r ≡ none
    go none e = refl
    go (some t) e =
        let (same, f) = one_form most long b t e in
        absurd (h (ap length same ∙ length_bucket most long t f))
