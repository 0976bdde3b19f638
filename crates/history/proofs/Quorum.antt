-- Majorities: lists of at least m distinct servers of n that are numbered from a first one on. Two of them share a server if
-- n < 2 * m, for every first number, n and m.
use mathlib.Core.Path.{◌≡◌, refl, sym, ◌∙◌, ap}
use mathlib.Core.Bool.{Bool, true, false}
use mathlib.Core.Logic.{◌⊎◌, inl, inr, ◌≢◌}
use mathlib.Core.List.Memᴰ
use mathlib.Core.List.{List, [], ◌∷◌, ◌++◌}
use Prim.Native.Nat.{ℕ, zero, suc, ◌+◌, ◌*◌, ◌≤◌, ◌<◌}
use native.Mathlib.Omega.{arith}
use native.Mathlib.Decide.{ℕ_discrete}
use lib.ListN.{length, length-append, get_or}
use Rattle.history.specs.Members.{◌∈◌}
use Rattle.history.specs.Ordering.{Distinct}
use Rattle.history.proofs.MemberLaws.{first_in, none_in, each_cons, each_append}

-- ---- distinct members of a list are no more than it is long

-- l without one of its members
abbrev rest : {x : ℕ} (l : List ℕ) → x ∈ l → List ℕ
rest [] m = elim m [ ]
rest (y ∷ l) (Memᴰ.head e) = l
rest (y ∷ l) (Memᴰ.tail m) = y ∷ rest l m

rest_length : {x : ℕ} (l : List ℕ) (m : x ∈ l) → suc (length (rest l m)) ≡ length l
rest_length [] m = elim m [ ]
rest_length (y ∷ l) (Memᴰ.head e) = refl
rest_length (y ∷ l) (Memᴰ.tail m) = ap suc (rest_length l m)

rest_keeps : {x q : ℕ} (l : List ℕ) (m : x ∈ l) → q ∈ l → q ≢ x → q ∈ rest l m
rest_keeps [] m _ d = elim m [ ]
rest_keeps (y ∷ l) (Memᴰ.head e) (Memᴰ.head f) d = absurd (d (f ∙ sym e))
rest_keeps (y ∷ l) (Memᴰ.head e) (Memᴰ.tail k) d = k
rest_keeps (y ∷ l) (Memᴰ.tail m) (Memᴰ.head f) d = Memᴰ.head f
rest_keeps (y ∷ l) (Memᴰ.tail m) (Memᴰ.tail k) d = Memᴰ.tail (rest_keeps l m k d)

distinct_length : (k l : List ℕ) → Distinct k → ((q : ℕ) → q ∈ k → q ∈ l) → length k ≤ length l
distinct_length [] l d f = omega arith
distinct_length (x ∷ k) l d f =
    let m = f x first_in in
    omega (
      arith,
      rest_length l m,
      distinct_length k (rest l m) d.1 (λ q n. rest_keeps l m (f q (Memᴰ.tail n)) (λ e. d.0 (rw e at n))),
    )

-- n numbers from `first` on
abbrev group : ℕ → ℕ → List ℕ
group first zero = []
group first (suc n) = (first + n) ∷ group first n

group_length : (first n : ℕ) → length (group first n) ≡ n
group_length first zero = refl
group_length first (suc n) = ap suc (group_length first n)

group_in : (first n q : ℕ) → first ≤ q → q < first + n → q ∈ group first n
group_in first zero q l h = absurd (omega arith)
group_in first (suc n) q l h = elim (ℕ_discrete q (first + n)) [ yes e ↦ Memᴰ.head e | no d ↦ Memᴰ.tail (group_in first n q l (omega arith)) ]

-- ---- two lists share a member, or are distinct together

in? : (x : ℕ) (l : List ℕ) → Dec (x ∈ l)
in? x [] = no none_in
in? x (y ∷ l) =
    let ih = in? x l in
    elim (ℕ_discrete x y) [
      | yes e ↦ yes (Memᴰ.head e)
      | no d ↦ elim ih [ yes m ↦ yes (Memᴰ.tail m) | no f ↦ no (λ m. elim (Memᴰ.cases_cons m) [ inl e ↦ d e | inr k ↦ f k ]) ]
    ]

abbrev pub Shared : List ℕ → List ℕ → Type 0
Shared k l = (q : ℕ) × (q ∈ k) × (q ∈ l)

shared_or_distinct : (k l : List ℕ) → Distinct k → Distinct l → Shared k l ⊎ Distinct (k ++ l)
shared_or_distinct [] l d e = inr e
shared_or_distinct (x ∷ k) l d e =
    let ih = shared_or_distinct k l d.1 e in
    elim (in? x l) [
      | yes m ↦ inl (x, first_in, m)
      | no f ↦ elim ih [
        | inl s ↦ inl (s.0, Memᴰ.tail s.1, s.2)
        | inr g ↦ inr (λ m. elim (Memᴰ.append_cases k m) [ inl a ↦ d.0 a | inr a ↦ f a ], g)
      ]
    ]

-- ---- majorities

pub record Majority (first n m : ℕ) (l : List ℕ) : Type 0 where
  pub distinct : Distinct l
  pub servers : (q : ℕ) → q ∈ l → (first ≤ q) × (q < first + n)
  pub enough : m ≤ length l

pub majorities_meet : (first n m : ℕ) → n < 2 * m → (k l : List ℕ) → Majority first n m k → Majority first n m l → Shared k l
majorities_meet first n m h k l a b =
    elim (shared_or_distinct k l a.distinct b.distinct) [
      | inl s ↦ s
      | inr d ↦
          let in_group : (j : List ℕ) → Majority first n m j → (q : ℕ) → q ∈ j → q ∈ group first n = λ j c q i. group_in first n q (c.servers q i).0 (c.servers q i).1 in
          let most = distinct_length (k ++ l) (group first n) d (each_append k (in_group k a) (in_group l b)) in
          absurd (omega (arith, most, group_length first n, length-append k l, a.enough, b.enough))
    ]

-- ---- a majority from marks: a list with an entry for each server of the group, and a count of the entries that pass a test

abbrev pub one_if : Bool → ℕ
one_if true = 1
one_if false = 0

-- how many of l pass the test
unfoldable pub count : {A : Type 0} → (A → Bool) → List A → ℕ
count f [] = 0
count f (a ∷ l) = one_if (f a) + count f l

abbrev pub put_if : Bool → ℕ → List ℕ → List ℕ
put_if true i l = i ∷ l
put_if false i l = l

-- the servers of a group whose marks pass the test: the mark at place i of l is that of server first + i
unfoldable pub marked : {A : Type 0} → (A → Bool) → ℕ → List A → List ℕ
marked f first [] = []
marked f first (a ∷ l) = put_if (f a) first (marked f (suc first) l)

module _ {A : Type 0} (f : A → Bool) where
  -- the server q has its place in the group, and its mark passes the test
  abbrev pub Passes : ℕ → List A → ℕ → Type 0
  Passes first l q = (i : ℕ) × (q ≡ first + i) × (i < length l) × ((d : A) → f (get_or l i d) ≡ true)

  passes_later : (first : ℕ) (a : A) (l : List A) (q : ℕ) → Passes (suc first) l q → Passes first (a ∷ l) q
  passes_later first a l q (i, e, h, t) = (suc i, omega arith, omega arith, t)

  -- who is listed as marked has its mark set
  pub marked_passes : (first : ℕ) (l : List A) (q : ℕ) → q ∈ marked f first l → Passes first l q
  unfolding marked
  marked_passes first [] q m = none_in m
  marked_passes first (a ∷ l) q m = go (marked_passes (suc first) l) (f a) refl m
    where
      go : ((p : ℕ) → p ∈ marked f (suc first) l → Passes (suc first) l p) → (t : Bool) → f a ≡ t → q ∈ put_if t first (marked f (suc first) l) → Passes first (a ∷ l) q
      go ih true e k = each_cons {P = Passes first (a ∷ l)} (0, omega arith, omega arith, λ d. e) (λ p n. passes_later first a l p (ih p n)) q k
      go ih false e k = passes_later first a l q (ih q k)
