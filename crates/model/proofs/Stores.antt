-- Laws of stores, cuts and starts (RULES, Restarts). All stores of a message together are what handling it stores; after any cut
-- the stored server holds the old state, the new vote with the old bucket, or the new state; a server that comes back has what a fresh
-- one has, but for what is stored. The proofs of `limits` and `consistency` go by `cut_cases`.
use mathlib.Core.Path.{◌≡◌, refl, sym, ◌∙◌, ap, subst}
use mathlib.Core.Logic.{◌⊎◌, inl, inr}
use mathlib.Core.List.{List, [], ◌∷◌, ◌++◌, map}
use mathlib.Core.Bool.{Bool, true, false}
use mathlib.Core.Option.{Option, none}
use Prim.Native.Nat.{ℕ, zero, suc, ◌≤◌, ◌<◌}
use native.Mathlib.Omega.{arith}
use lib.Dec.{ltb, eqb}
use lib.ListN.{length, take, replicate}
use borrow.Author.Tests.{eqb-true, eq-eqb, ltb-true, ltb-false, le-ltb}
use Rattle.model.specs.Cluster.{Version, above, Copy, Stored, copy_at, Round, Call, Volatile, Server, Body, please_vote, ack_vote, nack_vote, replica_write, ack_write, nack_write, replica_read, ack_read, nack_read, Message, fresh_server}
use Rattle.model.specs.Replica.{voting, after_vote, Request, reading, writing, may_accept, with_copy, storing, accepting, acknowledging, refusing}
use Rattle.model.specs.Stores.{Store, vote_store, copy_store, put_store, put_stores, vote_stores, copy_stores, accept_stores, request_stores, please_vote_stores, stores_of, is_broadcast, new_vote_old_buckets}
use Rattle.model.specs.Leader.{Reaction, reaction, with_stored, ceased, forgotten, step_down, reply_to, replying, on_please_vote, on_request, handle}
use Rattle.model.specs.Lines.{cut_server}
use Rattle.model.proofs.Replicas.{step_down_keeps}

-- ---- all stores

-- one list of stores after another
puts_append : (l k : List Store) (st : Stored) → put_stores (l ++ k) st ≡ put_stores k (put_stores l st)
unfolding put_stores
puts_append [] k st = refl
puts_append (x ∷ l) k st = puts_append l k (put_store x st)

same_vote : (e p : ℕ) (st : Stored) → e ≡ st.vote → p ≡ st.leader → st ≡ voting e p st
same_vote e p st i j = rw (i, j) refl

-- the vote is stored, or stands there already
all_of_vote : (e p : ℕ) (st : Stored) → put_stores (vote_stores e p st) st ≡ voting e p st
unfolding vote_stores put_stores put_store
all_of_vote e p st = go (eqb e st.vote) refl (eqb p st.leader) refl
  where
    go : (a : Bool) → eqb e st.vote ≡ a → (b : Bool) → eqb p st.leader ≡ b
        → put_stores (elim a [ false ↦ vote_store e p ∷ [] | true ↦ elim b [ true ↦ [] | false ↦ vote_store e p ∷ [] ] ]) st ≡ voting e p st
    go false i b j = refl
    go true i false j = refl
    go true i true j = same_vote e p st (eqb-true _ _ i) (eqb-true _ _ j)

-- a bucket's store looks at the copies alone
all_of_copy : (b : ℕ) (c : Copy) (st u : Stored) → st.copies ≡ u.copies → put_stores (copy_stores b c st) u ≡ storing b c u
unfolding copy_stores put_stores put_store storing
all_of_copy b c st u e = rw e (go (above c.version (copy_at u b).version))
  where
    go : (a : Bool) → put_stores (elim a [ true ↦ copy_store b c ∷ [] | false ↦ [] ]) u
        ≡ elim a [ false ↦ u | true ↦ with_copy b c u ]
    go true = refl
    go false = refl

all_of_request : (b e p : ℕ) (request : Request) (st : Stored) → put_stores (accept_stores b e p request st) st ≡ accepting b e p request st
unfolding accept_stores accepting
all_of_request b e p reading st = all_of_vote e p st
all_of_request b e p (writing c) st =
    puts_append (vote_stores e p st) (copy_stores b c st) st
    ∙ ap (put_stores (copy_stores b c st)) (all_of_vote e p st)
    ∙ all_of_copy b c st (voting e p st) refl

all_of_please_vote : (e p : ℕ) (st : Stored) → put_stores (please_vote_stores e p st) st ≡ after_vote e p st
unfolding please_vote_stores after_vote put_stores put_store
all_of_please_vote e p st = go (ltb st.vote e)
  where
    go : (a : Bool) → put_stores (elim a [ true ↦ vote_store e p ∷ [] | false ↦ [] ]) st ≡ elim a [ true ↦ voting e p st | false ↦ st ]
    go true = refl
    go false = refl

request_stored : (me : ℕ) (m : Message) (request : Request) (s : Server)
    → put_stores (request_stores m request s.stored) s.stored ≡ (on_request me m request s).server.stored
unfolding request_stores on_request put_stores
request_stored me m request s = go (may_accept m.election s.stored)
  where
    st : Stored
    st = accepting m.bucket m.election m.sender request s.stored

    go : (a : Bool) → put_stores (elim a [ false ↦ [] | true ↦ accept_stores m.bucket m.election m.sender request s.stored ]) s.stored
        ≡ (elim a as (λ _. Reaction) [
          | false ↦ reaction s (reply_to me m (refusing request) ∷ []) []
          | true ↦ replying (step_down (with_stored s st)) (reply_to me m (acknowledging m.bucket request st))
        ]).server.stored
    go false = refl
    go true = all_of_request m.bucket m.election m.sender request s.stored ∙ sym (step_down_keeps (with_stored s st)).0

-- a message of kind 1, 4 or 7 makes its server store, by all its stores, what handling it makes it store
pub all_stores : (n me : ℕ) (m : Message) (s : Server) → is_broadcast m.body ≡ true → put_stores (stores_of m s.stored) s.stored ≡ (handle n me m s).server.stored
unfolding stores_of handle is_broadcast on_please_vote
all_stores n me m s h = go m.body refl h
  where
    go : (x : Body) → m.body ≡ x → is_broadcast x ≡ true → put_stores (stores_of m s.stored) s.stored ≡ (handle n me m s).server.stored
    go please_vote e i =
        rw (stores_of, handle, e)
        (all_of_please_vote m.election m.sender s.stored ∙ sym (step_down_keeps (with_stored s (after_vote m.election m.sender s.stored))).0)
    go ack_vote e i = let z : ◌≡◌ {A = ℕ} 0 1 = cc in absurd (omega arith)
    go nack_vote e i = let z : ◌≡◌ {A = ℕ} 0 1 = cc in absurd (omega arith)
    go (replica_write c) e i = rw (stores_of, handle, e) (request_stored me m (writing c) s)
    go ack_write e i = let z : ◌≡◌ {A = ℕ} 0 1 = cc in absurd (omega arith)
    go nack_write e i = let z : ◌≡◌ {A = ℕ} 0 1 = cc in absurd (omega arith)
    go replica_read e i = rw (stores_of, handle, e) (request_stored me m reading s)
    go (ack_read c) e i = let z : ◌≡◌ {A = ℕ} 0 1 = cc in absurd (omega arith)
    go nack_read e i = let z : ◌≡◌ {A = ℕ} 0 1 = cc in absurd (omega arith)

-- ---- the stores, by cases

accepted_not_below : (e : ℕ) (st : Stored) → may_accept e st ≡ true → st.vote ≤ e
unfolding may_accept
accepted_not_below e st = go (ltb e st.vote) refl
  where
    go : (t : Bool) → ltb e st.vote ≡ t → (elim t as (λ _. Bool) [ true ↦ false | false ↦ true ]) ≡ true → st.vote ≤ e
    go true i h = let z : ◌≡◌ {A = ℕ} 0 1 = cc in absurd (omega arith)
    go false i h = ltb-false _ _ i

-- a PLEASEVOTE makes one store or none; a request that is accepted the vote's, unless it stands there, and the bucket's, if its version
-- is above the stored one
module _ (m : Message) (st : Stored) (P : List Store → Type 0) where
  abbrev the_vote : Store
  the_vote = vote_store m.election m.sender

  -- the vote or its leader is another
  abbrev NewVote : Type 0
  NewVote = m.election ≡ st.vote → m.sender ≡ st.leader → ⊥

  other_number : eqb m.election st.vote ≡ false → NewVote
  other_number i e f = let z : ◌≡◌ {A = ℕ} 0 1 = cc (eq-eqb _ _ e) in absurd (omega arith)

  other_leader : eqb m.sender st.leader ≡ false → NewVote
  other_leader i e f = let z : ◌≡◌ {A = ℕ} 0 1 = cc (eq-eqb _ _ f) in absurd (omega arith)

  vote_cases : P [] → (NewVote → P (the_vote ∷ [])) → P (vote_stores m.election m.sender st)
  unfolding vote_stores
  vote_cases p q = go (eqb m.election st.vote) refl (eqb m.sender st.leader) refl
    where
      go : (a : Bool) → eqb m.election st.vote ≡ a → (b : Bool) → eqb m.sender st.leader ≡ b
          → P (elim a [ false ↦ the_vote ∷ [] | true ↦ elim b [ true ↦ [] | false ↦ the_vote ∷ [] ] ])
      go false i b j = q (other_number i)
      go true i true j = p
      go true i false j = q (other_leader j)

  -- with the bucket's store the vote's is left out only where the vote stands there
  write_cases : (c : Copy) → P [] → (NewVote → P (the_vote ∷ []))
      → (above c.version (copy_at st m.bucket).version ≡ true → m.election ≡ st.vote → P (copy_store m.bucket c ∷ []))
      → (NewVote → above c.version (copy_at st m.bucket).version ≡ true → P (the_vote ∷ copy_store m.bucket c ∷ []))
      → P (vote_stores m.election m.sender st ++ copy_stores m.bucket c st)
  unfolding vote_stores copy_stores
  write_cases c p q r s = go (eqb m.election st.vote) refl (eqb m.sender st.leader) refl (above c.version (copy_at st m.bucket).version) refl
    where
      go : (a : Bool) → eqb m.election st.vote ≡ a → (b : Bool) → eqb m.sender st.leader ≡ b
          → (d : Bool) → above c.version (copy_at st m.bucket).version ≡ d
          → P ((elim a as (λ _. List Store) [ false ↦ the_vote ∷ [] | true ↦ elim b [ true ↦ [] | false ↦ the_vote ∷ [] ] ])
          ++ (elim d as (λ _. List Store) [ true ↦ copy_store m.bucket c ∷ [] | false ↦ [] ]))
      go false e b f true i = s (other_number e) i
      go false e b f false i = q (other_number e)
      go true e true f true i = r i (eqb-true _ _ e)
      go true e true f false i = p
      go true e false f true i = s (other_leader f) i
      go true e false f false i = q (other_leader f)

  request_cases : (request : Request) → P [] → (st.vote ≤ m.election → P (accept_stores m.bucket m.election m.sender request st))
      → P (request_stores m request st)
  unfolding request_stores
  request_cases request p q = go (may_accept m.election st) refl
    where
      go : (a : Bool) → may_accept m.election st ≡ a → P (elim a [ false ↦ [] | true ↦ accept_stores m.bucket m.election m.sender request st ])
      go false e = p
      go true e = q (accepted_not_below _ _ e)

  please_vote_cases : P [] → (st.vote < m.election → P (the_vote ∷ [])) → P (please_vote_stores m.election m.sender st)
  unfolding please_vote_stores
  please_vote_cases p q = go (ltb st.vote m.election) refl
    where
      go : (a : Bool) → ltb st.vote m.election ≡ a → P (elim a [ true ↦ the_vote ∷ [] | false ↦ [] ])
      go true e = q (ltb-true _ _ e)
      go false e = p

  stores_cases : P []
      → (m.body ≡ please_vote → st.vote < m.election → P (the_vote ∷ []))
      → (m.body ≡ replica_read → st.vote ≤ m.election → NewVote → P (the_vote ∷ []))
      → ((c : Copy) → m.body ≡ replica_write c → st.vote ≤ m.election → NewVote → P (the_vote ∷ []))
      → ((c : Copy) → m.body ≡ replica_write c → above c.version (copy_at st m.bucket).version ≡ true → m.election ≡ st.vote
      → P (copy_store m.bucket c ∷ []))
      → ((c : Copy) → m.body ≡ replica_write c → above c.version (copy_at st m.bucket).version ≡ true → st.vote ≤ m.election → NewVote
      → P (the_vote ∷ copy_store m.bucket c ∷ []))
      → P (stores_of m st)
  unfolding stores_of accept_stores
  stores_cases p granted read write copy both = go m.body refl
    where
      go : (x : Body) → m.body ≡ x → P (elim x as (λ _. List Store) [
        | please_vote ↦ please_vote_stores m.election m.sender st
        | ack_vote ↦ []
        | nack_vote ↦ []
        | replica_write c ↦ request_stores m (writing c) st
        | ack_write ↦ []
        | nack_write ↦ []
        | replica_read ↦ request_stores m reading st
        | ack_read c ↦ []
        | nack_read ↦ []
      ])
      go please_vote e = please_vote_cases p (granted e)
      go ack_vote e = p
      go nack_vote e = p
      go (replica_write c) e = request_cases (writing c) p (λ h. write_cases c p (write c e h) (copy c e) (λ z i. both c e i h z))
      go ack_write e = p
      go nack_write e = p
      go replica_read e = request_cases reading p (λ h. vote_cases p (read e h))
      go (ack_read c) e = p
      go nack_read e = p

-- at most two
pub few_stores : (m : Message) (st : Stored) → length (stores_of m st) ≤ 2
few_stores m st =
    stores_cases m st (λ l. length l ≤ 2) (omega arith) (λ e h. omega arith) (λ e h z. omega arith) (λ c e h z. omega arith) (λ c e h i. omega arith)
    (λ c e h i z. omega arith)

-- a store is made only where that part changes
abbrev pub Changes : Stored → Store → Type 0
Changes st (vote_store e p) = e ≡ st.vote → p ≡ st.leader → ⊥
Changes st (copy_store b c) = c.version ≡ (copy_at st b).version → ⊥

abbrev pub AllChange : Stored → List Store → Type 0
AllChange st [] = Unit {0}
AllChange st (x ∷ l) = Changes st x × AllChange st l

not_above_itself : (w : Version) → above w w ≡ false
unfolding above
not_above_itself w = rw (above, eq-eqb w.election w.election refl, le-ltb w.counter w.counter (omega arith))

above_differs : (v w : Version) → above v w ≡ true → v ≡ w → ⊥
above_differs v w h e = let z : ◌≡◌ {A = ℕ} 0 1 = cc (not_above_itself w, rw e at h) in absurd (omega arith)

pub each_store_changes : (m : Message) (st : Stored) → AllChange st (stores_of m st)
each_store_changes m st =
    stores_cases m st (AllChange st) tt (λ e h. (λ i j. omega arith, tt)) (λ e h z. (z, tt)) (λ c e h z. (z, tt))
    (λ c e h i. (above_differs c.version _ h, tt)) (λ c e h i z. (z, (above_differs c.version _ h, tt)))

-- ---- cuts

-- the first k of no store, of one, of two
module _ (st : Stored) (P : Stored → Type 0) (before : P st) where
  none_made : (k : ℕ) → P (put_stores (take k []) st)
  unfolding put_stores
  none_made zero = before
  none_made (suc k) = before

  one_made : (x : Store) → P (put_store x st) → (k : ℕ) → P (put_stores (take k (x ∷ [])) st)
  unfolding put_stores
  one_made x h zero = before
  one_made x h (suc zero) = h
  one_made x h (suc (suc k)) = h

  two_made : (x y : Store) → P (put_store x st) → P (put_store y (put_store x st)) → (k : ℕ) → P (put_stores (take k (x ∷ y ∷ [])) st)
  unfolding put_stores
  two_made x y h i zero = before
  two_made x y h i (suc zero) = h
  two_made x y h i (suc (suc zero)) = i
  two_made x y h i (suc (suc (suc k))) = i

-- what holds of the old state, of the state with the new vote, and of those with the new bucket besides, holds after any cut
module _ (m : Message) (st : Stored) (P : Stored → Type 0) where
  abbrev voted : Stored
  voted = voting m.election m.sender st

  pub cut_cases : P st
      → (m.body ≡ please_vote → st.vote < m.election → P voted)
      → (m.body ≡ replica_read → st.vote ≤ m.election → P voted)
      → ((c : Copy) → m.body ≡ replica_write c → st.vote ≤ m.election → P voted)
      → ((c : Copy) → m.body ≡ replica_write c → above c.version (copy_at st m.bucket).version ≡ true → m.election ≡ st.vote
      → P (put_store (copy_store m.bucket c) st))
      → ((c : Copy) → m.body ≡ replica_write c → above c.version (copy_at st m.bucket).version ≡ true → st.vote ≤ m.election
      → P (put_store (copy_store m.bucket c) voted))
      → (k : ℕ) → P (put_stores (take k (stores_of m st)) st)
  unfolding put_store
  cut_cases p granted read write copy both k =
      stores_cases m st (λ l. P (put_stores (take k l) st)) (none_made st P p k)
      (λ e h. one_made st P p _ (granted e h) k)
      (λ e h z. one_made st P p _ (read e h) k)
      (λ c e h z. one_made st P p _ (write c e h) k)
      (λ c e h i. one_made st P p _ (copy c e h i) k)
      (λ c e h i z. two_made st P p _ _ (write c e i) (both c e h i) k)

-- the old state, the new vote with the old buckets, or what all of these stores leave
abbrev OneOfThree : Stored → List Store → Stored → Type 0
OneOfThree st l u =
    let new = put_stores l st in (u ≡ st) ⊎ ((u ≡ new_vote_old_buckets st new) ⊎ (u ≡ new))

after_cut : (k : ℕ) (m : Message) (st : Stored) → OneOfThree st (stores_of m st) (put_stores (take k (stores_of m st)) st)
unfolding put_stores put_store
after_cut k m st =
    stores_cases m st (λ l. OneOfThree st l (put_stores (take k l) st)) (none_made st (OneOfThree st []) (inl refl) k)
    (λ e h. one _) (λ e h z. one _) (λ c e h z. one _) (λ c e h i. one _) (λ c e h i z. both c)
  where
    one : (x : Store) → OneOfThree st (x ∷ []) (put_stores (take k (x ∷ [])) st)
    one x = one_made st (OneOfThree st (x ∷ [])) (inl refl) x (inr (inr refl)) k

    both : (c : Copy) → let l = vote_store m.election m.sender ∷ copy_store m.bucket c ∷ [] in OneOfThree st l (put_stores (take k l) st)
    both c =
        let x = vote_store m.election m.sender in
        let y = copy_store m.bucket c in
        two_made st (OneOfThree st (x ∷ y ∷ [])) (inl refl) x y (inr (inl refl)) (inr (inr refl)) k

-- after any cut of a message of kind 1, 4 or 7 the stored server holds the old state, the new vote with the old bucket, or the new state
pub cut_leaves : (n me k : ℕ) (m : Message) (s : Server) → is_broadcast m.body ≡ true
    → let old = s.stored in
    let new = (handle n me m s).server.stored in
    let left = (cut_server k m s).stored in
    (left ≡ old) ⊎ ((left ≡ new_vote_old_buckets old new) ⊎ (left ≡ new))
cut_leaves n me k m s h =
    subst (λ new. let left = (cut_server k m s).stored in (left ≡ s.stored) ⊎ ((left ≡ new_vote_old_buckets s.stored new) ⊎ (left ≡ new)))
    (all_stores n me m s h) (after_cut k m s.stored)

-- ---- starts

all_replaced : {A B : Type 0} (x : B) (l : List A) (n : ℕ) → length l ≡ n → map (λ y. x) l ≡ replicate n x
all_replaced x [] zero e = refl
all_replaced x [] (suc n) e = absurd (omega arith)
all_replaced x (y ∷ l) zero e = absurd (omega arith)
all_replaced x (y ∷ l) (suc n) e = ap (λ r. x ∷ r) (all_replaced x l n (omega arith))

-- beside what is stored, a server that comes back has what a fresh server of its cluster has
pub forgotten_is_fresh : (n b : ℕ) (w : Volatile) → length w.votes ≡ n → length w.rounds ≡ b → length w.calls ≡ b → forgotten w ≡ (fresh_server n b).volatile
unfolding forgotten ceased fresh_server
forgotten_is_fresh n b w i j k =
    rw (all_replaced false w.votes n i, all_replaced {B = Option Round} none w.rounds b j, all_replaced {B = Option Call} none w.calls b k) refl
