-- Bytes of the region of keys and values, lent alone: n of them from p on, read and stored.
use mathlib.Core.Path.{◌≡◌, sym, ap, ◌∙◌}
use mathlib.Core.List.{List, ◌++◌, append_assoc}
use Prim.Native.Nat.{ℕ, ◌+◌, ◌-◌, ◌≤◌}
use native.Mathlib.Omega.{arith}
use lib.ListN.{length, take, drop}
use lib.Seq.{paste, take_all, drop-drop}
use Rattle.memory_regions.specs.Cuts.{size}
use Rattle.memory_regions.specs.Contents.{byte_sizes, byte_count, texts_place, contents, with_texts}
use Rattle.memory_regions.proofs.Contents.{texts_part, texts_stored}

pub text_read : (b : List ℕ) (p n m : ℕ) → m ≡ n → p + n ≤ size byte_sizes 3 → take m (drop (texts_place + p) b) ≡ take n (drop p (contents b).texts)
text_read b p n m e inside = rw e (sym (texts_part b p n inside))

pub text_put : (b v : List ℕ) (p n m : ℕ) → m ≡ n → length b ≡ byte_count → p + n ≤ size byte_sizes 3 → length v ≡ n
    → contents (take (texts_place + p) b ++ (v ++ drop m (drop (texts_place + p) b))) ≡ with_texts (contents b) (paste (contents b).texts p v n)
text_put b v p n m e long inside whole =
    let all : take n v ≡ v = take_all n v (omega arith) in
    let put : take (texts_place + p) b ++ (v ++ drop m (drop (texts_place + p) b)) ≡ paste b (texts_place + p) v n = rw (e, drop-drop n (texts_place + p) b, all, append_assoc) in
    ap contents put ∙ texts_stored b v p n long inside (omega arith)
