-- What a line by value keeps of the line that was read: all of it, but for the last bytes of a key or value that is too long.
-- No rule sees more of a line than that: a line and what is kept of it are performed alike.
use mathlib.Core.Path.{◌≡◌, refl, ap, ap₂, ◌∙◌}
use mathlib.Core.List.{List, ◌++◌, append-nil}
use mathlib.Core.Bool.{Bool, true, false}
use mathlib.Core.Option.{Option, none, some}
use Prim.Native.Nat.{ℕ, ◌≤◌, ◌-◌}
use native.Mathlib.Omega.{arith}
use lib.ListN.{length, take, replicate, length-append, length-take, length-replicate}
use lib.Seq.{take_all}
use borrow.Author.Tests.{ltb-false}
use Rattle.model.specs.Measures.{max_key_bytes, max_value_bytes}
use Rattle.model.specs.Calls.{Words, get, set, setif, del, keys}
use Rattle.model.specs.Cluster.{Cluster}
use Rattle.model.specs.Lines.{Line, cluster, elect, call, deliver, copy, lose, timeout, stop, cut, start, State, either, no_server, no_bucket_for, bad_key, bad_value, bad_words, first_of, conditions, conditions_up_to, in_cluster, in_cluster_up_to, create_cluster, perform, perform_up_to}
use Rattle.std.specs.Prelude as O
use Rattle.std.specs.Prelude.{if◌then◌else◌, is_some}
use Rattle.std.specs.Option.{unwrap_or}
use Rattle.entries.specs.Decoded.{text_bytes, no_value}
use Rattle.parse.specs.Kept.{text_for, key_for, item_for, key_in, value_in, given_in}
use Rattle.parse.specs.Meaning.{line_for, line_in, parsed_call, parsed_line, parsed}
use Rattle.parse.proofs.Padding.{padded_back}

-- ---- what is kept of a line

-- in the place of the bytes past the first `top` stand zeros
unfoldable pub kept : ℕ → List ℕ → List ℕ
kept top l = take top l ++ replicate (length l - top) 0

unfoldable pub kept_item : Option (List ℕ) → Option (List ℕ)
kept_item none = none
kept_item (some v) = some (kept max_value_bytes v)

unfoldable pub kept_words : Words → Words
kept_words (get k) = get (kept max_key_bytes k)
kept_words (set k v) = set (kept max_key_bytes k) (kept_item v)
kept_words (setif k e v) = setif (kept max_key_bytes k) (kept_item e) (kept_item v)
kept_words (del k) = del (kept max_key_bytes k)
kept_words (keys b) = keys b

unfoldable pub kept_line : Line → Line
kept_line (cluster n b) = cluster n b
kept_line (elect s) = elect s
kept_line (call s w) = call s (kept_words w)
kept_line (deliver i) = deliver i
kept_line (copy i) = copy i
kept_line (lose i) = lose i
kept_line (timeout s b) = timeout s b
kept_line (stop s) = stop s
kept_line (cut i k) = cut i k
kept_line (start s) = start s

unfoldable pub kept_of : Option Line → Option Line
kept_of none = none
kept_of (some l) = some (kept_line l)

-- ---- the line by value that was read stands for that

key_read : (k : List ℕ) → key_in (key_for k) ≡ kept max_key_bytes k
unfolding key_in text_bytes text_for kept
key_read k = rw (padded_back 8 k)

value_read : (v : Option (List ℕ)) → given_in (if is_some (item_for v) then O.Some (unwrap_or (item_for v) no_value) else O.None) ≡ kept_item v
unfolding given_in item_for value_in text_bytes text_for kept kept_item
value_read none = refl
value_read (some v) = rw (padded_back 16 v)

call_means : (s : ℕ) (w : Words) → line_in (parsed_call s w) ≡ some (call s (kept_words w))
unfolding line_in line_for parsed_call kept_words
call_means s (get k) = rw (key_read k)
call_means s (set k v) = rw (key_read k, value_read v)
call_means s (setif k e v) = rw (key_read k, value_read e, value_read v)
call_means s (del k) = rw (key_read k)
call_means s (keys b) = refl

pub parsed_means : (o : Option Line) → line_in (parsed o) ≡ kept_of o
unfolding line_in line_for parsed parsed_line kept_of kept_line
parsed_means none = refl
parsed_means (some (cluster n b)) = refl
parsed_means (some (elect s)) = refl
parsed_means (some (call s w)) = call_means s w
parsed_means (some (deliver i)) = refl
parsed_means (some (copy i)) = refl
parsed_means (some (lose i)) = refl
parsed_means (some (timeout s b)) = refl
parsed_means (some (stop s)) = refl
parsed_means (some (cut i k)) = refl
parsed_means (some (start s)) = refl

-- ---- a key or value

length_kept : (top : ℕ) (l : List ℕ) → length (kept top l) ≡ length l
unfolding kept
length_kept top l = simp (length-append, length-take, length-replicate) (omega arith)

kept_whole : (top : ℕ) (l : List ℕ) → length l ≤ top → kept top l ≡ l
unfolding kept
kept_whole top l h =
    let n : length l - top ≡ 0 = omega arith in
    rw (take_all top l h, n, append-nil)

-- its length is refused or not as before
key_refused : (k : List ℕ) → bad_key (kept max_key_bytes k) ≡ bad_key k
unfolding bad_key
key_refused k = rw (length_kept max_key_bytes k)

value_refused : (v : Option (List ℕ)) → bad_value (kept_item v) ≡ bad_value v
unfolding bad_value kept_item
value_refused none = refl
value_refused (some v) = rw (length_kept 16 v)

either_false : (a b : Bool) → either a b ≡ false → (a ≡ false) × (b ≡ false)
unfolding either
either_false true b h = (h, cc)
either_false false b h = (refl, h)

-- and if it is not, the whole is kept
key_whole : (k : List ℕ) → bad_key k ≡ false → kept max_key_bytes k ≡ k
unfolding bad_key
key_whole k h = kept_whole 8 k (ltb-false 8 (length k) (either_false _ _ h).1)

value_whole : (v : Option (List ℕ)) → bad_value v ≡ false → kept_item v ≡ v
unfolding bad_value kept_item
value_whole none h = refl
value_whole (some v) h = ap some (kept_whole 16 v (ltb-false 16 (length v) h))

-- ---- a call's words

words_refused : (w : Words) → bad_words (kept_words w) ≡ bad_words w
unfolding bad_words kept_words
words_refused (get k) = key_refused k
words_refused (set k v) = ap₂ either (key_refused k) (value_refused v)
words_refused (setif k e v) = ap₂ either (key_refused k) (ap₂ either (value_refused e) (value_refused v))
words_refused (del k) = key_refused k
words_refused (keys b) = refl

words_whole : (w : Words) → bad_words w ≡ false → kept_words w ≡ w
unfolding bad_words kept_words
words_whole (get k) h = ap get (key_whole k h)
words_whole (set k v) h = let t = either_false _ _ h in ap₂ set (key_whole k t.0) (value_whole v t.1)
words_whole (setif k e v) h =
    let t = either_false _ _ h in
    let u = either_false _ _ t.1 in
    rw (key_whole k t.0, value_whole e u.0, value_whole v u.1)
words_whole (del k) h = ap del (key_whole k h)
words_whole (keys b) h = refl

same_bucket : (c : Cluster) (w : Words) → no_bucket_for c (kept_words w) ≡ no_bucket_for c w
unfolding no_bucket_for kept_words
same_bucket c (get k) = refl
same_bucket c (set k v) = refl
same_bucket c (setif k e v) = refl
same_bucket c (del k) = refl
same_bucket c (keys b) = refl

-- ---- a line

-- 3 if that applies, else 4
pub lengths_refused : (c : Cluster) (x : ℕ) (w : Words) (t : Bool) → either (no_server c x) (no_bucket_for c w) ≡ t → bad_words w ≡ true → first_of (conditions c (call x w)) ≡ some (elim t [ true ↦ 3 | false ↦ 4 ])
unfolding conditions_up_to first_of
lengths_refused c x w true e h = rw e
lengths_refused c x w false e h = rw (e, h)

call_alike : (s : State) (c : Cluster) (x : ℕ) (w : Words) → in_cluster s c (call x (kept_words w)) ≡ in_cluster s c (call x w)
call_alike s c x w = go (bad_words w) refl
  where
    go : (t : Bool) → bad_words w ≡ t → in_cluster s c (call x (kept_words w)) ≡ in_cluster s c (call x w)
    go false h = rw (words_whole w h)
    go true h =
        unfold in_cluster_up_to in
        rw (in_cluster_up_to, lengths_refused c x w _ refl h, lengths_refused c x (kept_words w) _ (ap (either (no_server c x)) (same_bucket c w)) (words_refused w ∙ h))

in_cluster_alike : (s : State) (c : Cluster) (l : Line) → in_cluster s c (kept_line l) ≡ in_cluster s c l
unfolding kept_line
in_cluster_alike s c (cluster n b) = refl
in_cluster_alike s c (elect x) = refl
in_cluster_alike s c (call x w) = call_alike s c x w
in_cluster_alike s c (deliver i) = refl
in_cluster_alike s c (copy i) = refl
in_cluster_alike s c (lose i) = refl
in_cluster_alike s c (timeout x b) = refl
in_cluster_alike s c (stop x) = refl
in_cluster_alike s c (cut i k) = refl
in_cluster_alike s c (start x) = refl

founding_alike : (s : State) (l : Line) → create_cluster s (kept_line l) ≡ create_cluster s l
unfolding kept_line create_cluster
founding_alike s (cluster n b) = refl
founding_alike s (elect x) = refl
founding_alike s (call x w) = refl
founding_alike s (deliver i) = refl
founding_alike s (copy i) = refl
founding_alike s (lose i) = refl
founding_alike s (timeout x b) = refl
founding_alike s (stop x) = refl
founding_alike s (cut i k) = refl
founding_alike s (start x) = refl

pub performed : (s : State) (l : Line) → perform s (kept_line l) ≡ perform s l
performed s l = go s.cluster refl
  where
    go : (o : Option Cluster) → s.cluster ≡ o → perform s (kept_line l) ≡ perform s l
    go none e = unfold perform_up_to in rw (perform_up_to, e) (founding_alike s l)
    go (some c) e = unfold perform_up_to in rw (perform_up_to, e) (in_cluster_alike s c l)
