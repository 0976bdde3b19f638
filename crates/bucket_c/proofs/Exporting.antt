-- The exported calls, case by case; and the keys written one behind another.
use mathlib.Core.Path.{◌≡◌, refl, sym, ap, ap₂, ◌∙◌}
use mathlib.Core.List.{List, [], ◌∷◌, ◌++◌, map, append_assoc}
use mathlib.Core.Option.{Option, none, some}
use Prim.Native.Nat.{ℕ, suc, ◌≤◌, ◌<◌, ◌+◌, ◌-◌, ◌*◌}
use native.Mathlib.Omega.{arith}
use native.Mathlib.Nat.{zero-add}
use native.Mathlib.Numerals.{add-one}
use lib.ListN.{length, take, drop, get_or, set, length-set, length-append, length-map, drop_of_length-le, get_or-map}
use lib.Seq.{sets, sets-eq, length-sets, drop-cons, drop-drop}
use borrow.Rule.Slice.PartMut.{put_mid}
use borrow.Author.Tests.{le-leb, lt-leb}
use Rattle.entries.specs.Entries.{Entry, value_of, keys_of}
use Rattle.entries.specs.Decoded.{Key, key_bytes, blank}
use Rattle.entries.proofs.Shifts.{map-take_lem}
use Rattle.table.specs.Form.{read_bucket}
use Rattle.table.proofs.Filling.{sets_append}
use Rattle.bucket.specs.Answers.{Numbered, numbered}
use Rattle.bucket_calls.specs.declared.KeyList.{KeyList}
use Rattle.bucket_calls.specs.Answers.{looked, look_of, keys_in, listed, list_of}
use Rattle.bucket_c.specs.Exports.{written_out, absent_number, get_of, keys_bytes, keys_out}

-- ---- bytes, written out

module _ (n : ℕ) (w out : List ℕ) where
  pub out_short : length out < length w → numbered 115 out ≡ written_out n w out
  unfolding written_out
  out_short h = rw (written_out, lt-leb (length w) (length out) h)

  -- a run of stores at the front
  pub out_done : (after : List ℕ) → length w ≤ length out → after ≡ sets out 0 w → numbered n after ≡ written_out n w out
  unfolding written_out
  out_done after h e =
      rw (written_out, le-leb (length w) (length out) h)
      (ap (numbered n) (e ∙ sets-eq w out 0 (rw zero-add h) ∙ rw zero-add))

-- bytes copied over the front
pub out_copied : (n : ℕ) (w out part : List ℕ) → n ≡ length w → n ≤ length out → part ≡ w → numbered n (part ++ drop n out) ≡ written_out (length w) w out
unfolding written_out
out_copied n w out part e h p =
    let l : length w ≤ length out = rw e at h in
    rw (written_out, le-leb (length w) (length out) l, p, e)

-- ---- what a look-up's answer says of the bucket

module _ (b k : List ℕ) (v : Option (List ℕ)) where
  look_none : looked 13 v ≡ look_of b k → read_bucket 4 16 b ≡ none
  unfolding look_of
  look_none e = go (read_bucket 4 16 b) refl
    where
      go : (r : Option (List Entry)) → read_bucket 4 16 b ≡ r → r ≡ none
      go none q = refl
      go (some t) q =
          let z : ◌≡◌ {A = ℕ} 13 0 = ap (λ a. a.number) (rw (look_of, q) at e) in
          absurd (omega arith)

  look_some : looked 0 v ≡ look_of b k → (t : List Entry) × ((read_bucket 4 16 b ≡ some t) × (v ≡ value_of k t))
  unfolding look_of
  look_some e = go (read_bucket 4 16 b) refl
    where
      go : (r : Option (List Entry)) → read_bucket 4 16 b ≡ r → (t : List Entry) × ((r ≡ some t) × (v ≡ value_of k t))
      go none q = let z : ◌≡◌ {A = ℕ} 0 13 = ap (λ a. a.number) (rw (look_of, q) at e) in absurd (omega arith)
      go (some t) q = (t, (refl, ap (λ a. a.value) (rw (look_of, q) at e)))

module _ (b k : List ℕ) (v : Option (List ℕ)) (out : List ℕ) where
  pub get_refused : looked 13 v ≡ look_of b k → numbered 113 out ≡ get_of b k out
  unfolding get_of
  get_refused e = rw (get_of, look_none b k v e)

  pub get_absent : looked 0 v ≡ look_of b k → v ≡ none → numbered absent_number out ≡ get_of b k out
  unfolding get_of
  get_absent e n =
      let (t, (q, s)) = look_some b k v e in
      rw (get_of, q, ← s, n)

  pub get_found : (u : List ℕ) (a : Numbered) → looked 0 v ≡ look_of b k → v ≡ some u → a ≡ written_out (length u) u out → a ≡ get_of b k out
  unfolding get_of
  get_found u a e n d =
      let (t, (q, s)) = look_some b k v e in
      d ∙ rw (get_of, q, ← s, n)

-- ---- what a listing says of the bucket

module _ (b : List ℕ) (k : List (List ℕ)) where
  list_none : listed 13 k ≡ list_of b → read_bucket 4 16 b ≡ none
  unfolding list_of
  list_none e = go (read_bucket 4 16 b) refl
    where
      go : (r : Option (List Entry)) → read_bucket 4 16 b ≡ r → r ≡ none
      go none q = refl
      go (some t) q =
          let z : ◌≡◌ {A = ℕ} 13 0 = ap (λ a. a.number) (rw (list_of, q) at e) in
          absurd (omega arith)

  list_some : listed 0 k ≡ list_of b → (t : List Entry) × ((read_bucket 4 16 b ≡ some t) × (k ≡ keys_of t))
  unfolding list_of
  list_some e = go (read_bucket 4 16 b) refl
    where
      go : (r : Option (List Entry)) → read_bucket 4 16 b ≡ r → (t : List Entry) × ((r ≡ some t) × (k ≡ keys_of t))
      go none q = let z : ◌≡◌ {A = ℕ} 0 13 = ap (λ a. a.number) (rw (list_of, q) at e) in absurd (omega arith)
      go (some t) q = (t, (refl, ap (λ a. a.keys) (rw (list_of, q) at e)))

module _ (b : List ℕ) (k : List (List ℕ)) (out : List ℕ) where
  pub keys_refused : listed 13 k ≡ list_of b → numbered 113 out ≡ keys_out b out
  unfolding keys_out
  keys_refused e = rw (keys_out, list_none b k e)

  pub keys_listed : (a : Numbered) → listed 0 k ≡ list_of b → a ≡ written_out (length k) (keys_bytes k) out → a ≡ keys_out b out
  unfolding keys_out
  keys_listed a e d =
      let (t, (q, s)) = list_some b k e in
      d ∙ rw (keys_out, q, ← s) (ap (λ n. written_out n (keys_bytes k) out) (ap length s ∙ length-map t (λ x. x.key)))

-- the keys of a list, which are lent as a slice
module _ (b : List ℕ) (l : KeyList) (out : List ℕ) (i : listed 0 (keys_in l) ≡ list_of b) where
  lent : map key_bytes (take l.count l.keys) ≡ keys_in l
  unfolding keys_in
  lent = map-take_lem key_bytes l.count l.keys

  pub list_written : (a : Numbered) → a ≡ written_out (length (take l.count l.keys)) (keys_bytes (map key_bytes (take l.count l.keys))) out → a ≡ keys_out b out
  list_written a e =
      keys_listed b (keys_in l) out a i
      (e ∙ ap₂ (λ n k. written_out n (keys_bytes k) out) (sym (length-map (take l.count l.keys) key_bytes) ∙ ap length lent) lent)

  pub list_short : (n : ℕ) → n ≡ length (keys_bytes (map key_bytes (take l.count l.keys))) → length out < n → numbered 115 out ≡ keys_out b out
  list_short n e h =
      let k : length out < length (keys_bytes (map key_bytes (take l.count l.keys))) = rw e at h in
      list_written (numbered 115 out) (out_short _ _ out k)

-- ---- bytes copied over a part are stores, one behind the other

part_sets : (at n : ℕ) (out part : List ℕ) → length part ≡ n → at + n ≤ length out → put_mid at n out part ≡ sets out at part
part_sets at n out part e h = rw (drop-drop n at out, ← e) (sym (append_assoc (take at out) part (drop (at + length part) out)) ∙ sym (sets-eq part out at (rw e h)))

-- ---- the keys one behind another: i are passed, and the next stands at `at`

pub record KeysPassing (l : List Key) (at i : ℕ) : Type 0 where
  pub few : length l ≤ 4
  pub far : at ≤ 9 * i
  pub ahead : at + length (keys_bytes (drop i (map key_bytes l))) ≡ length (keys_bytes (map key_bytes l))

pub passing_starts : {l : List Key} → length l ≤ 4 → KeysPassing l 0 0
passing_starts h = record { few = h; far = omega arith; ahead = omega arith }

module _ {l : List Key} {at i : ℕ} (c : KeysPassing l at i) where
  -- what key i takes, before what the later ones take
  module _ {m : ℕ} (h : i < length l) (e : m ≡ length (key_bytes (get_or l i blank.key))) where
    next_key : keys_bytes (drop i (map key_bytes l)) ≡ m ∷ (key_bytes (get_or l i blank.key) ++ keys_bytes (drop (i + 1) (map key_bytes l)))
    unfolding keys_bytes
    next_key =
        let k : i < length (map key_bytes l) = rw (length-map l key_bytes) h in
        rw (add-one i, drop-cons (map key_bytes l) i (key_bytes blank.key) k, get_or-map key_bytes l i blank.key, ← e)

    next_length : length (keys_bytes (drop i (map key_bytes l))) ≡ 1 + m + length (keys_bytes (drop (i + 1) (map key_bytes l)))
    next_length =
        rw (next_key, length-append (key_bytes (get_or l i blank.key)) (keys_bytes (drop (i + 1) (map key_bytes l))), ← e) (omega arith)

    pub passing_within : at + (1 + m) ≤ length (keys_bytes (map key_bytes l))
    passing_within = omega (arith, c.ahead, next_length)

    pub passing_goes_on : m ≤ 8 → KeysPassing l (at + (1 + m)) (i + 1)
    passing_goes_on t = record { few = c.few; far = omega (arith, c.far); ahead = omega (arith, c.ahead, next_length) }

  none_left : length l ≤ i → drop i (map key_bytes l) ≡ []
  none_left h = drop_of_length-le (map key_bytes l) {i = i} (rw (length-map l key_bytes) h)

  pub passing_ends : length l ≤ i → at ≡ length (keys_bytes (map key_bytes l))
  unfolding keys_bytes
  passing_ends h = let a : at + 0 ≡ length (keys_bytes (map key_bytes l)) = rw (none_left h) at c.ahead in omega arith

-- ---- the same, with the keys that are passed written

pub record KeysPutting (out₀ : List ℕ) (l : List Key) (out : List ℕ) (at i : ℕ) : Type 0 where
  pub passing : KeysPassing l at i
  pub room : length (keys_bytes (map key_bytes l)) ≤ length out₀
  pub size : length out ≡ length out₀
  pub rest : sets out₀ 0 (keys_bytes (map key_bytes l)) ≡ sets out at (keys_bytes (drop i (map key_bytes l)))

pub putting_starts : {out : List ℕ} {l : List Key} → length l ≤ 4 → length (keys_bytes (map key_bytes l)) ≤ length out → KeysPutting out l out 0 0
putting_starts h r = record { passing = passing_starts h; room = r; size = refl; rest = refl }

module _ {out₀ : List ℕ} {l : List Key} {out : List ℕ} {at i : ℕ} (c : KeysPutting out₀ l out at i) where
  module _ {m : ℕ} (h : i < length l) (e : m ≡ length (key_bytes (get_or l i blank.key))) where
    pub putting_within : at + (1 + m) ≤ length out
    putting_within = omega (arith, passing_within c.passing h e, c.room, c.size)

    pub putting_room : at + 1 + m ≤ length (set out at m)
    putting_room = rw (length-set out at m) (omega (arith, putting_within))

    goes_on : (after : List ℕ) → m ≤ 8 → after ≡ sets (set out at m) (at + 1) (key_bytes (get_or l i blank.key)) → KeysPutting out₀ l after (at + (1 + m)) (i + 1)
    goes_on after t w =
        let q : suc at + length (key_bytes (get_or l i blank.key)) ≡ at + (1 + m) = omega (arith, e) in
        let s : sets (set out at m) (suc at) (key_bytes (get_or l i blank.key)) ≡ after = rw (← add-one at) (sym w) in
        record {
          passing = passing_goes_on c.passing h e t;
          room = c.room;
          size = ap length w ∙ length-sets (set out at m) (at + 1) (key_bytes (get_or l i blank.key)) ∙ length-set out at m ∙ c.size;
          rest = c.rest ∙ ap (sets out at) (next_key c.passing h e) ∙ sets_append (set out at m) (suc at) (key_bytes (get_or l i blank.key)) (keys_bytes (drop (i + 1) (map key_bytes l))) ∙ ap₂ (λ o n. sets o n (keys_bytes (drop (i + 1) (map key_bytes l)))) s q;
        }

    pub putting_goes_on : (part : List ℕ) → m ≤ 8 → part ≡ key_bytes (get_or l i blank.key) → KeysPutting out₀ l (put_mid (at + 1) (at + 1 + m - (at + 1)) (set out at m) part) (at + (1 + m)) (i + 1)
    putting_goes_on part t p =
        let n : length part ≡ at + 1 + m - (at + 1) = omega (arith, e, ap length p) in
        goes_on _ t (part_sets (at + 1) (at + 1 + m - (at + 1)) (set out at m) part n (omega (arith, putting_room)) ∙ ap (sets (set out at m) (at + 1)) p)

  pub putting_ends : length l ≤ i → numbered (length l) out ≡ written_out (length l) (keys_bytes (map key_bytes l)) out₀
  unfolding keys_bytes
  putting_ends h =
      out_done (length l) (keys_bytes (map key_bytes l)) out₀ out c.room (sym (c.rest ∙ rw (none_left c.passing h)))
