-- Where the offsets of the form point (RULES, Bucket bytes 2): a value of no bytes has the offset of the pair after it, or of the end.
use mathlib.Core.Path.{◌≡◌, ap, ◌∙◌}
use mathlib.Core.List.{List, [], ◌∷◌, ◌++◌}
use Prim.Native.Nat.{ℕ, ◌+◌}
use native.Mathlib.Omega.{arith}
use lib.ListN.{length, length-append}
use Rattle.entries.specs.Entries.{Entry, entry}
use Rattle.table.specs.Form.{header, body}

-- entries begin where the bytes of those before them end
pub offsets_append : (at : ℕ) (t u : List Entry) → header at (t ++ u) ≡ header at t ++ header (at + length (body t)) u
unfolding header body
offsets_append at [] u = ap (λ n. header n u) (omega arith)
offsets_append at (e ∷ t) u =
    let mid = at + length e.key in
    let next = mid + length e.value in
    let ends : next + length (body t) ≡ at + length (e.key ++ (e.value ++ body t)) = simp length-append (omega arith) in
    ap (λ l. at ∷ (length e.key ∷ (mid ∷ (length e.value ∷ l)))) (offsets_append next t u ∙ ap (λ n. header next t ++ header n u) ends)

-- before another entry: the offset at which that one begins
pub empty_before : (at : ℕ) (k : List ℕ) (t : List Entry) → header at (entry k [] ∷ t) ≡ at ∷ (length k ∷ ((at + length k) ∷ (0 ∷ header (at + length k) t)))
unfolding header
empty_before at k t = ap (λ n. at ∷ (length k ∷ ((at + length k) ∷ (0 ∷ header n t)))) (omega arith)

-- as the last one: the offset at which the bytes end
pub empty_last : (at : ℕ) (t : List Entry) (k : List ℕ)
    → header at (t ++ (entry k [] ∷ []))
    ≡ header at t ++ ((at + length (body t)) ∷ (length k ∷ ((at + length (body (t ++ (entry k [] ∷ [])))) ∷ (0 ∷ []))))
unfolding header body
empty_last at t k =
    offsets_append at t (entry k [] ∷ [])
    ∙ ap (λ n. header at t ++ ((at + length (body t)) ∷ (length k ∷ (n ∷ (0 ∷ []))))) (ends t at)
  where
    ends : (t : List Entry) (at : ℕ) → at + length (body t) + length k ≡ at + length (body (t ++ (entry k [] ∷ [])))
    ends [] at = simp length-append (omega arith)
    ends (e ∷ t) at = simp length-append (omega (arith, ends t 0))
