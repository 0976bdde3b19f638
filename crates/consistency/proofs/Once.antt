-- The answers that one step of a server prints are of different calls; and laws of lists in which no number stands twice.
use mathlib.Core.Path.{◌≡◌, refl}
use mathlib.Core.Logic.{inl, inr}
use mathlib.Core.List.Memᴰ
use mathlib.Core.List.{List, [], ◌∷◌, ◌++◌, map}
use mathlib.Core.Option.{Option, none, some}
use Prim.Native.Nat.{ℕ, suc, ◌≤◌}
use native.Mathlib.Omega.{arith}
use lib.ListN.{length, get_or}
use Rattle.model.specs.Calls.{Answer}
use Rattle.model.specs.Cluster.{Call, Server}
use Rattle.model.specs.Leader.{Reaction, ended, endings}
use Rattle.history.specs.Members.{◌∈◌}
use Rattle.history.proofs.MemberLaws.{none_in}
use Rattle.consistency.specs.Statement.{Distinct}
use Rattle.consistency.proofs.Log.{Log}
use Rattle.consistency.proofs.Invariant.{LogOk, ServerOk}
use Rattle.consistency.proofs.Ceasing.{as_unsettled, one_bucket}
use Rattle.consistency.proofs.Onward.{Goes}

-- ---- no number stands twice

abbrev Apart : List ℕ → List ℕ → Type 0
Apart k l = (i : ℕ) → i ∈ k → i ∈ l → ⊥

pub distinct_join : (k l : List ℕ) → Distinct k → Distinct l → Apart k l → Distinct (k ++ l)
distinct_join [] l d e f = e
distinct_join (i ∷ k) l d e f = (
  λ m. elim (Memᴰ.append_cases k m) [ inl a ↦ d.0 a | inr a ↦ f i (Memᴰ.head refl) a ],
  distinct_join k l d.1 e (λ j m. f j (Memᴰ.tail m)),
)

distinct_split : (k l : List ℕ) → Distinct (k ++ l) → Distinct k × Distinct l × Apart k l
distinct_split [] l d = (tt, d, λ i m. none_in m)
distinct_split (j ∷ k) l d =
    let (a, b, f) = distinct_split k l d.1 in
    ((λ m. d.0 (Memᴰ.append_left l m), a), b, apart f)
  where
    apart : Apart k l → Apart (j ∷ k) l
    apart f i (Memᴰ.head e) n = d.0 (Memᴰ.append_right k (rw e at n))
    apart f i (Memᴰ.tail m) n = f i m n

pub distinct_regroup : (a r x : List ℕ) → Distinct (r ++ (a ++ x)) → Distinct ((a ++ r) ++ x)
distinct_regroup a r x d =
    let (p, q, f) = distinct_split r (a ++ x) d in
    let (u, v, g) = distinct_split a x q in
    distinct_join (a ++ r) x (distinct_join a r u p (λ i m n. f i n (Memᴰ.append_left x m))) v
    (λ i m n. elim (Memᴰ.append_cases a m) [ inl k ↦ g i k n | inr k ↦ f i k (Memᴰ.append_right a n) ])

-- ---- the answers of one step

abbrev pub numbers_of : List Answer → List ℕ
numbers_of out = map (λ a. a.call) out

pub in_endings : (l : List (Option Call)) (i : ℕ) → i ∈ numbers_of (endings l) → (j : ℕ) × (c : Call) × (get_or l j none ≡ some c) × (i ≡ c.number)
unfolding endings ended
in_endings [] i m = none_in m
in_endings (none ∷ l) i m = let h = in_endings l i m in (suc h.0, h.1, h.2, h.3)
in_endings (some c ∷ l) i (Memᴰ.head e) = (0, c, refl, e)
in_endings (some c ∷ l) i (Memᴰ.tail m) = let h = in_endings l i m in (suc h.0, h.1, h.2, h.3)

-- if no two open calls have one number, no two of their ends do
endings_once : (l : List (Option Call)) → ((i j : ℕ) (c k : Call) → get_or l i none ≡ some c → get_or l j none ≡ some k → c.number ≡ k.number → i ≡ j) → Distinct (numbers_of (endings l))
unfolding endings ended
endings_once [] f = tt
endings_once (none ∷ l) f = endings_once l (λ i j c k x y e. omega (arith, f (suc i) (suc j) c k x y e))
endings_once (some c ∷ l) f = (
  λ m. let (j, k, x, e) = in_endings l c.number m in omega (arith, f 0 (suc j) c k refl x e),
  endings_once l (λ i j c k x y e. omega (arith, f (suc i) (suc j) c k x y e)),
)

single_once : (out : List Answer) → length out ≤ 1 → Distinct (numbers_of out)
single_once [] h = tt
single_once (a ∷ []) h = (λ m. none_in m, tt)
single_once (a ∷ b ∷ out) h = absurd (omega arith)

pub answers_once : {n buckets now taken p : ℕ} {log : Log} → LogOk n now taken log → {s : Server} → ServerOk n buckets log p s → {r : Reaction} → Goes s r → Distinct (numbers_of r.answers)
answers_once ok {s} agrees {r} h =
    elim h.answers [
      | inl few ↦ single_once r.answers few
      | inr e ↦
          let o = (as_unsettled agrees).calls in
          rw e (endings_once s.volatile.calls (λ i j c k x y same. one_bucket ok (o i c x) (o j k y) same))
    ]
