-- What stands in the history of one bucket, and what stands in the log: each comes from the other.
use mathlib.Core.Path.{◌≡◌, refl, sym, ◌∙◌, ap, subst}
use mathlib.Core.List.Memᴰ
use mathlib.Core.List.{List, [], ◌∷◌, map}
use Prim.Native.Nat.{ℕ}
use native.Mathlib.Decide.{ℕ_discrete}
use Rattle.model.specs.Calls.{Result, value, listed, done, mismatch, full, notdone, unknown}
use Rattle.history.specs.Members.{◌∈◌}
use Rattle.history.specs.History.{End, never, answered}
use Rattle.history.proofs.MemberLaws.{first_in, none_in, each_cons}
use Rattle.consistency.proofs.Log.{Ended}
use Rattle.consistency.proofs.OneBucket.{plain, put_if, in_bucket, end_by, or_else, end_of}

-- ---- the entries of one bucket

in_put : {A P : Type 0} {a x : A} {l k : List A} (d : Dec P) → (x ≡ a → P) → a ∈ (x ∷ l) → (a ∈ l → a ∈ k) → a ∈ put_if d x k
in_put (yes p) f (Memᴰ.head e) ih = Memᴰ.head e
in_put (yes p) f (Memᴰ.tail m) ih = Memᴰ.tail (ih m)
in_put (no p) f (Memᴰ.head e) ih = absurd (p (f (sym e)))
in_put (no p) f (Memᴰ.tail m) ih = ih m

of_put : {A P : Type 0} {Q : A → Type 0} (x : A) {k : List A} (d : Dec P) → (P → Q x) → ((a : A) → a ∈ k → Q a) → (a : A) → a ∈ put_if d x k → Q a
of_put {Q = Q} x (yes p) f ih = each_cons {P = Q} (f p) ih
of_put x (no p) f ih = ih

-- what holds of what comes from each of l holds of each of what comes from l
pub map_each : {A B : Type 0} (of : A → B) (l : List A) (P : B → Type 0) → ((a : A) → a ∈ l → P (of a)) → (x : B) → x ∈ map of l → P x
map_each of l P f x m = let (a, i, e) = Memᴰ.of_map of l m in subst P e (f a i)

module _ {A : Type 0} (bucket : A → ℕ) (b : ℕ) where
  in_bucket_lem : {a : A} (l : List A) → a ∈ l → bucket a ≡ b → a ∈ in_bucket bucket b l
  unfolding in_bucket
  in_bucket_lem [] m e = elim m [ ]
  in_bucket_lem (x ∷ l) m e = in_put (ℕ_discrete (bucket x) b) (λ i. ap bucket i ∙ e) m (λ k. in_bucket_lem l k e)

  of_bucket : (l : List A) (a : A) → a ∈ in_bucket bucket b l → (a ∈ l) × (bucket a ≡ b)
  unfolding in_bucket
  of_bucket [] a m = none_in m
  of_bucket (x ∷ l) a m =
      of_put {Q = λ c. (c ∈ (x ∷ l)) × (bucket c ≡ b)} x (ℕ_discrete (bucket x) b) (λ e. (first_in, e))
      (λ c k. let (i, e) = of_bucket l c k in (Memᴰ.tail i, e)) a m

-- the part of l that is of bucket b, each entry made into another
module _ {A B : Type 0} (bucket : A → ℕ) (of : A → B) (b : ℕ) where
  pub part_has : {a : A} (l : List A) → a ∈ l → bucket a ≡ b → of a ∈ map of (in_bucket bucket b l)
  part_has l m e = Memᴰ.map of (in_bucket_lem bucket b l m e)

  -- what holds of what comes from each entry of the bucket holds of each of the part
  pub part_each : (l : List A) (P : B → Type 0) → ((a : A) → a ∈ l → bucket a ≡ b → P (of a)) → (x : B) → x ∈ map of (in_bucket bucket b l) → P x
  part_each l P f = map_each of (in_bucket bucket b l) P (λ a m. let (i, e) = of_bucket bucket b l a m in f a i e)

  -- and so for any two
  pub part_two : (l : List A) (P : B → B → Type 0) → ((a c : A) → a ∈ l → c ∈ l → bucket a ≡ b → bucket c ≡ b → P (of a) (of c))
      → (x y : B) → x ∈ map of (in_bucket bucket b l) → y ∈ map of (in_bucket bucket b l) → P x y
  part_two l P f x y m k = part_each l (λ z. P z y) (λ a i h. part_each l (P (of a)) (λ c j g. f a c i j h g) y k) x m

-- ---- how a call ended

-- what an end says of the line and the result that it was made from
abbrev pub Says : ℕ → Result → End plain → Type 0
Says line r never = ⊥
Says line r (End.unknown l) = line ≡ l
Says line r (End.notdone l) = line ≡ l
Says line r (answered l s) = (line ≡ l) × (r ≡ s)

says_itself : (line : ℕ) (r : Result) → Says line r (end_by line r)
unfolding end_by
says_itself line (value v) = (refl, refl)
says_itself line (listed l) = (refl, refl)
says_itself line done = (refl, refl)
says_itself line mismatch = (refl, refl)
says_itself line full = (refl, refl)
says_itself line notdone = refl
says_itself line unknown = refl

pub end_says : (line : ℕ) (r : Result) {e : End plain} → end_by line r ≡ e → Says line r e
end_says line r e = subst (Says line r) e (says_itself line r)

-- an entry of l for call i that says e
abbrev pub EntryFor : List Ended → ℕ → End plain → Type 0
EntryFor l i e = (x : Ended) × (x ∈ l) × (x.number ≡ i) × (end_by x.line x.result ≡ e)

-- a call that ended has an entry
pub entry_of : (l : List Ended) (i : ℕ) {e : End plain} → end_of l i ≡ e → (never ≡ e → ⊥) → EntryFor l i e
unfolding end_of
entry_of [] i h ended = absurd (ended h)
entry_of (x ∷ l) i {e} h ended = go (λ k. entry_of l i k ended) (ℕ_discrete x.number i) h
  where
    go : (end_of l i ≡ e → EntryFor l i e) → (d : Dec (x.number ≡ i)) → or_else d (end_by x.line x.result) (end_of l i) ≡ e → EntryFor (x ∷ l) i e
    go ih (yes n) k = (x, first_in, n, k)
    go ih (no n) k = let (y, m, f, g) = ih k in (y, Memᴰ.tail m, f, g)

-- and with one entry for each call, what is looked up is that entry
pub entry_found : (l : List Ended) → ((x y : Ended) → x ∈ l → y ∈ l → x.number ≡ y.number → x ≡ y) → (x : Ended) → x ∈ l
    → end_of l x.number ≡ end_by x.line x.result
unfolding end_of
entry_found [] once x m = elim m [ ]
entry_found (y ∷ l) once x m =
    go (entry_found l (λ a b i j. once a b (Memᴰ.tail i) (Memᴰ.tail j)) x)
    (ℕ_discrete y.number x.number) m
  where
    go : (x ∈ l → end_of l x.number ≡ end_by x.line x.result) → (d : Dec (y.number ≡ x.number)) → x ∈ (y ∷ l)
        → or_else d (end_by y.line y.result) (end_of l x.number) ≡ end_by x.line x.result
    go ih (yes n) m = ap (λ z. end_by z.line z.result) (once y x first_in m n)
    go ih (no n) (Memᴰ.head e) = absurd (n (ap (λ z. z.number) (sym e)))
    go ih (no n) (Memᴰ.tail k) = ih k
