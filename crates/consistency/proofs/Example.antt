-- A run of three servers, computed, and its one order. Server 0 leads under 1. Call 1 sets key 61 to 01. The own write of call 2,
-- which sets it to 02, reaches server 2 alone; after it a late copy of call 1's write does, which is acknowledged and replaces
-- nothing. Server 1 is elected under 2 by server 2 while server 0 still leads under 1, recovers the write of call 2, and answers
-- call 3 with 02. Then call 2 ends as `unknown`: it took effect.
use mathlib.Core.Path.{◌≡◌, refl, sym, ap, subst, subst⁻¹}
use mathlib.Core.Logic.{◌⊎◌, inl, inr}
use mathlib.Core.Option.{none, some}
use mathlib.Core.List.Memᴰ
use mathlib.Core.List.{List, [], ◌∷◌}
use Prim.Native.Nat.{ℕ}
use native.Mathlib.Omega.{arith}
use lib.ListN.{take}
use Rattle.entries.specs.Entries.{Entry, entry}
use Rattle.model.specs.Calls.{get, set, setif, Result, value, listed, done, mismatch, full, notdone, unknown}
use Rattle.model.specs.Cluster.{version, copy_at}
use Rattle.model.specs.Lines.{initial_state}
use Rattle.model.specs.Text.{bytes}
use Rattle.model.specs.Run.{state_after, lines_of, run}
use Rattle.model.specs.Compute.{computing}
use Rattle.history.specs.Members.{◌∈◌}
use Rattle.history.proofs.MemberLaws.{none_in, each_cons, clash}
use Rattle.consistency.specs.Statement.{Begin, End, same, lookup, alike, stands, without, plain_set, plain, meaning, begins_from, ends_from, begins, ends, Distinct, Before, Fed, OneOrder}
use Rattle.consistency.proofs.Reached.{server_in, LeadsIn}
use Rattle.consistency.proofs.Theorem.{one_order_for_every_script}

abbrev input : List ℕ
input = bytes "cluster 3 1\nelect 0\ndeliver 0\ndeliver 1\nset 0 61 01\ndeliver 2\ndeliver 2\ndeliver 3\ndeliver 3\ndeliver 4\ndeliver 4\ncopy 5\ndeliver 6\nset 0 61 02\ndeliver 7\ndeliver 5\nelect 1\ndeliver 9\ndeliver 9\nget 1 61\ndeliver 10\ndeliver 10\ndeliver 11\ndeliver 11\ndeliver 12\ndeliver 12\ntimeout 0 0\n"

abbrev script : List (List ℕ)
script = lines_of input

prints : run input ≡ bytes "1 done 4\n3 value 3 02\n2 unknown 1\nmessages 31 1 20 0 12\n"
unfolding computing
prints = refl

-- after line 12 server 2 has stored call 1's write, and after line 15 that of call 2; line 16 hands it the former again
first_write : (copy_at (server_in (state_after initial_state (take 12 script)) 2).stored 0).version ≡ version 1 2
unfolding computing
first_write = refl

second_write : (copy_at (server_in (state_after initial_state (take 15 script)) 2).stored 0).version ≡ version 1 3
unfolding computing
second_write = refl

late_copy_replaces_nothing : (copy_at (server_in (state_after initial_state (take 16 script)) 2).stored 0).version ≡ version 1 3
unfolding computing
late_copy_replaces_nothing = refl

-- two leaders at once, under two numbers
two_leaders : LeadsIn (state_after initial_state (take 19 script)) 0 1 × LeadsIn (state_after initial_state (take 19 script)) 1 2
unfolding computing
two_leaders = ((refl, refl), (refl, refl))

-- ---- what is read off it

abbrev key : List ℕ
key = 0x61 ∷ []

abbrev b1 : Begin
b1 = record { number = 1; words = set key (some (1 ∷ [])); bucket = 0; line = 5 }

abbrev b2 : Begin
b2 = record { number = 2; words = set key (some (2 ∷ [])); bucket = 0; line = 14 }

abbrev b3 : Begin
b3 = record { number = 3; words = get key; bucket = 0; line = 20 }

abbrev e1 : End
e1 = record { number = 1; result = done; line = 13 }

abbrev e2 : End
e2 = record { number = 2; result = unknown; line = 27 }

abbrev e3 : End
e3 = record { number = 3; result = value (some (2 ∷ [])); line = 26 }

begun : begins script ≡ b1 ∷ b2 ∷ b3 ∷ []
unfolding computing begins_from meaning
begun = refl

ended : ends script ≡ e1 ∷ e3 ∷ e2 ∷ []
unfolding computing ends_from
ended = refl

abbrev bs : List Begin
bs = b1 ∷ b2 ∷ b3 ∷ []

abbrev es : List End
es = e1 ∷ e3 ∷ e2 ∷ []

-- ---- its one order

-- what a table that holds t is fed next
abbrev Next : List Entry → ℕ → List ℕ → Type 0
Next t i l =
    ((i ≡ 1) × Fed bs es (plain_set key (some (1 ∷ [])) t).table l)
    ⊎ (((i ≡ 2) × Fed bs es (plain_set key (some (2 ∷ [])) t).table l)
    ⊎ ((i ≡ 3) × (value (lookup key t) ≡ value (some (2 ∷ []))) × Fed bs es t l))

next : (t : List Entry) (i : ℕ) (l : List ℕ) → Fed bs es t (i ∷ l) → Next t i l
unfolding plain
next t i l (x, m, e, f, g) = go x m e f g
  where
    go : (x : Begin) → x ∈ bs → x.number ≡ i
        → ((y : End) → y ∈ es → y.number ≡ i → (y.result ≡ unknown → ⊥) → (plain x.words t).result ≡ y.result)
        → Fed bs es (plain x.words t).table l → Next t i l
    go =
        each_cons (λ e f g. inl (sym e, g))
        (each_cons (λ e f g. inr (inl (sym e, g)))
        (each_cons (λ e f g. inr (inr (sym e, f e3 (Memᴰ.tail (Memᴰ.head refl)) e (λ u. clash cc), g))) (λ x m. none_in m)))

-- of 3 ∈ i ∷ l
later : {i : ℕ} {l : List ℕ} → 3 ∈ (i ∷ l) → (3 ≡ i → ⊥) → 3 ∈ l
later m d = elim (Memᴰ.cases_cons m) [ inl e ↦ absurd (d e) | inr k ↦ k ]

abbrev rest : List ℕ → List ℕ
rest [] = []
rest (a ∷ l) = l

-- if i stands before j, j does not come first
not_first : (i j : ℕ) (l : List ℕ) → Before i j (j ∷ l) → Distinct (j ∷ l) → ⊥
not_first i j l ([], m, e, k) d = d.0 (subst (λ x. j ∈ rest x) e k)
not_first i j l (a ∷ h, m, e, k) d = d.0 (subst (λ x. j ∈ rest x) e (Memᴰ.append_right h (Memᴰ.tail k)))

abbrev first_byte : Result → ℕ
first_byte (value none) = 0
first_byte (value (some [])) = 0
first_byte (value (some (b ∷ v))) = b
first_byte (listed l) = 0
first_byte done = 0
first_byte mismatch = 0
first_byte full = 0
first_byte notdone = 0
first_byte unknown = 0

-- the tables after call 1, and after call 2
abbrev t1 : List Entry
t1 = entry key (1 ∷ []) ∷ []

abbrev t2 : List Entry
t2 = entry key (2 ∷ []) ∷ []

nothing_more : (t : List Entry) (l : List ℕ) → (1 ∈ l → ⊥) → (2 ∈ l → ⊥) → (3 ∈ l → ⊥) → Fed bs es t l → l ≡ []
nothing_more t [] x y z f = refl
nothing_more t (i ∷ l) x y z f =
    elim (next t i l f) [
      | inl e ↦ absurd (x (Memᴰ.head (sym e.0)))
      | inr (inl e) ↦ absurd (y (Memᴰ.head (sym e.0)))
      | inr (inr e) ↦ absurd (z (Memᴰ.head (sym e.0)))
    ]

-- after calls 1 and 2 comes call 3, and nothing else
then_three : (l : List ℕ) → 3 ∈ l → (1 ∈ l → ⊥) → (2 ∈ l → ⊥) → Distinct l → Fed bs es t2 l → l ≡ 3 ∷ []
then_three [] m x y d f = none_in m
then_three (i ∷ l) m x y d f =
    elim (next t2 i l f) [
      | inl e ↦ absurd (x (Memᴰ.head (sym e.0)))
      | inr (inl e) ↦ absurd (y (Memᴰ.head (sym e.0)))
      | inr (inr e) ↦
          let none_left : l ≡ [] = nothing_more t2 l (λ k. x (Memᴰ.tail k)) (λ k. y (Memᴰ.tail k)) (λ k. d.0 (rw e.0 k)) e.2 in
          rw (e.0, none_left)
    ]

-- after call 1 comes call 2, since call 3 read what it wrote
then_two : (l : List ℕ) → 3 ∈ l → (1 ∈ l → ⊥) → Distinct l → Fed bs es t1 l → l ≡ 2 ∷ 3 ∷ []
unfolding computing plain_set same lookup stands without
then_two [] m x d f = none_in m
then_two (i ∷ l) m x d f =
    elim (next t1 i l f) [
      | inl e ↦ absurd (x (Memᴰ.head (sym e.0)))
      | inr (inl e) ↦
          let after : l ≡ 3 ∷ [] = then_three l (later m (λ k. omega (arith, e.0))) (λ k. x (Memᴰ.tail k)) (λ k. d.0 (rw e.0 k)) d.1 e.1 in
          rw (e.0, after)
      | inr (inr e) ↦ absurd (omega (arith, ap first_byte e.1))
    ]

-- call 1 ended before call 2 began and before call 3 began, so it comes first
only_order : (l : List ℕ) → 3 ∈ l → Distinct l → (2 ∈ l → Before 1 2 l) → Before 1 3 l → Fed bs es [] l → l ≡ 1 ∷ 2 ∷ 3 ∷ []
unfolding computing plain_set same lookup stands without
only_order [] m d x y f = none_in m
only_order (i ∷ l) m d x y f =
    elim (next [] i l f) [
      | inl e ↦
          let after : l ≡ 2 ∷ 3 ∷ [] = then_two l (later m (λ k. omega (arith, e.0))) (λ k. d.0 (rw e.0 k)) d.1 e.1 in
          rw (e.0, after)
      | inr (inl e) ↦ absurd (not_first 1 2 l (rw e.0 at (x (Memᴰ.head (sym e.0)))) (rw e.0 at d))
      | inr (inr e) ↦ absurd (not_first 1 3 l (rw e.0 at y) (rw e.0 at d))
    ]

-- every order that there is of this run's calls
the_order : (o : OneOrder (begins script) (ends script) 0) → o.order ≡ 1 ∷ 2 ∷ 3 ∷ []
the_order = go begun ended
  where
    read : (o : OneOrder bs es 0) → o.order ≡ 1 ∷ 2 ∷ 3 ∷ []
    read o =
        let one = o.complete b1 (Memᴰ.head refl) refl e1 (Memᴰ.head refl) refl (λ u. clash cc) (λ u. clash cc) in
        let three = o.complete b3 (Memᴰ.tail (Memᴰ.tail (Memᴰ.head refl))) refl e3 (Memᴰ.tail (Memᴰ.head refl)) refl (λ u. clash cc) (λ u. clash cc) in
        only_order o.order three o.once
        (λ m. o.in_real_time 1 2 one m e1 (Memᴰ.head refl) refl b2 (Memᴰ.tail (Memᴰ.head refl)) refl (omega arith))
        (o.in_real_time 1 3 one three e1 (Memᴰ.head refl) refl b3 (Memᴰ.tail (Memᴰ.tail (Memᴰ.head refl))) refl (omega arith))
        o.answered

    go : {x : List Begin} {y : List End} → x ≡ bs → y ≡ es → (o : OneOrder x y 0) → o.order ≡ 1 ∷ 2 ∷ 3 ∷ []
    go {x} {y} e f = subst⁻¹ (λ x. (o : OneOrder x y 0) → o.order ≡ 1 ∷ 2 ∷ 3 ∷ []) e (subst⁻¹ (λ y. (o : OneOrder bs y 0) → o.order ≡ 1 ∷ 2 ∷ 3 ∷ []) f read)

-- the order of the theorem
order_of_the_theorem : (one_order_for_every_script script 0).order ≡ 1 ∷ 2 ∷ 3 ∷ []
order_of_the_theorem = the_order (one_order_for_every_script script 0)

-- ---- the plain table by itself: a value of no bytes is stored and found, and told from an absent key both ways

abbrev marked : List Entry
marked = entry key [] ∷ []

told_apart :
    ((plain (set key (some [])) []).table ≡ marked)
    × ((plain (get key) marked).result ≡ value (some []))
    × ((plain (get key) []).result ≡ value none)
    × ((plain (setif key none none) marked).result ≡ mismatch)
    × ((plain (setif key (some []) none) []).result ≡ mismatch)
    × ((plain (setif key (some []) none) marked).table ≡ [])
unfolding plain plain_set lookup alike same stands without
told_apart = (refl, refl, refl, refl, refl, refl)
