-- What no step of a server undoes, whatever state it is in: its election number never falls; under one number it is a
-- candidate, then a leader, then neither, and never goes back; its copy of a bucket is only replaced by a newer version.
-- And how many answers a step prints: at most one, unless the server ceases to lead.
use mathlib.Core.Path.{◌≡◌, refl}
use mathlib.Core.Logic.{◌⊎◌, inl, inr}
use mathlib.Core.List.{List, [], ◌∷◌}
use mathlib.Core.Bool.{Bool, true, false}
use mathlib.Core.Option.{none, some}
use Prim.Native.Nat.{ℕ, zero, suc, ◌≤◌}
use native.Mathlib.Omega.{arith}
use lib.Dec.{ltb}
use lib.ListN.{length, get_or, set, take}
use Rattle.entries.specs.Entries.{Entry}
use Rattle.model.specs.Calls.{Words, Result, done, Effect, answers, writes, effect}
use Rattle.model.specs.Cluster.{Copy, fresh_copy, Stored, copy_at, Role, follower, candidate, leading, Purpose, recovery_read, recovery_write, check, own_write, Round, Volatile, call_at, Server, Message}
use Rattle.model.specs.Lines.{cut_server, restarted}
use Rattle.model.specs.Stores.{copy_store, put_store, put_stores, stores_of}
use Rattle.model.specs.Replica.{voting, after_vote, Request, reading, writing, storing, accepting}
use Rattle.model.specs.Leader.{Reaction, reaction, no_reaction, after, with_stored, with_round, endings, cease, step_down, standing, elect, on_ack_vote, closes, fails, new_round, opening, open_round, answer_of, finish, applying, after_read, checking, recovering, recovered, start_read, start_call, begin_call, closed, counted, counting, on_reply, on_please_vote, on_request, handle}
use Rattle.model.specs.Leader
use Rattle.model.proofs.FirstRound.{first_round}
use Rattle.model.proofs.Stores.{cut_cases}
use Rattle.history.specs.Version.{◌≼◌, ◌≺◌}
use Rattle.history.proofs.VersionLaws.{le_refl, le_trans, le_of_lt}
use Rattle.consistency.proofs.Above.{above_lt}
use Rattle.consistency.proofs.Storing.{storing_cases}

-- how far a server has come under its number
abbrev pub stage : Role → ℕ
stage candidate = 0
stage leading = 1
stage follower = 2

pub record Onward (s t : Server) : Type 0 where
  pub number : s.stored.number ≤ t.stored.number
  pub role : t.stored.number ≡ s.stored.number → stage s.volatile.role ≤ stage t.volatile.role
  pub copies : (b : ℕ) → (copy_at s.stored b).version ≼ (copy_at t.stored b).version

pub onward_refl : (s : Server) → Onward s s
onward_refl s = record { number = omega arith; role = λ e. omega arith; copies = λ b. le_refl _ }

pub onward_trans : {s t u : Server} → Onward s t → Onward t u → Onward s u
onward_trans f g =
    record {
      number = omega (arith, f.number, g.number);
      role = λ e. omega (arith, f.role (omega (arith, f.number, g.number)), g.role (omega (arith, f.number, g.number)));
      copies = λ b. le_trans (f.copies b) (g.copies b);
    }

-- ---- what is stored

-- stored anew: the same number, and no older copy
pub record Renewed (st u : Stored) : Type 0 where
  pub number : u.number ≡ st.number
  pub copies : (b : ℕ) → (copy_at st b).version ≼ (copy_at u b).version

-- every element of a list is as it was, but perhaps the one that was set
pub set_either : {A : Type 0} (P : A → Type 0) (l : List A) (b k : ℕ) (x d : A) → P (get_or l k d) → (k ≡ b → P x) → P (get_or (set l b x) k d)
set_either P [] b k x d old new = old
set_either P (y ∷ l) zero zero x d old new = new refl
set_either P (y ∷ l) zero (suc k) x d old new = old
set_either P (y ∷ l) (suc b) zero x d old new = old
set_either P (y ∷ l) (suc b) (suc k) x d old new = set_either P l b k x d old (λ e. new (omega arith))

-- a copy of a later version, stored
copy_renews : (b : ℕ) (c : Copy) (st : Stored) → (copy_at st b).version ≺ c.version → Renewed st (put_store (copy_store b c) st)
unfolding put_store
copy_renews b c st l =
    record { number = refl; copies = λ k. set_either (λ x. (copy_at st k).version ≼ x.version) st.copies b k c fresh_copy (le_refl _) (λ e. rw e (le_of_lt l)) }

-- a write replaces no copy but an older one
pub storing_renews : (b : ℕ) (c : Copy) (st : Stored) → Renewed st (storing b c st)
unfolding put_store
storing_renews b c st = storing_cases b c st (Renewed st) (λ l. record { number = refl; copies = λ k. le_refl _ }) (copy_renews b c st)

pub accepting_renews : (b e p : ℕ) (request : Request) (st : Stored) → Renewed st (accepting b e p request st)
unfolding accepting
accepting_renews b e p reading st = record { number = refl; copies = λ k. le_refl _ }
accepting_renews b e p (writing c) st =
    let h = storing_renews b c (voting e p st) in
    record { number = h.number; copies = h.copies }

pub vote_renews : (e p : ℕ) (st : Stored) → Renewed st (after_vote e p st)
unfolding after_vote
vote_renews e p st = elim (ltb st.vote e) as (λ t. Renewed st (elim t [ true ↦ record { number = st.number; vote = e; leader = p; copies = st.copies } | false ↦ st ])) [
  | true ↦ record { number = refl; copies = λ k. le_refl _ }
  | false ↦ record { number = refl; copies = λ k. le_refl _ }
]

-- with the same role
pub renewed : (s : Server) {st : Stored} {w : Volatile} {x : Bool} → Renewed s.stored st → w.role ≡ s.volatile.role → Onward s (record { stored = st; volatile = w; stopped = x })
renewed s h e = record { number = omega (arith, h.number); role = λ i. rw e (omega arith); copies = h.copies }

-- a message's stores, as many as a cut leaves
cut_renews : (k : ℕ) (m : Message) (st : Stored) → Renewed st (put_stores (take k (stores_of m st)) st)
cut_renews k m st =
    cut_cases m st (Renewed st) (record { number = refl; copies = λ b. le_refl _ }) (λ e h. voted) (λ e h. voted) (λ c e h. voted)
    (λ c e h i. copy_renews m.bucket c st (above_lt _ _ h))
    (λ c e h i. let r = copy_renews m.bucket c (voting m.election m.sender st) (above_lt _ _ h) in record { number = r.number; copies = r.copies }) k
  where
    voted : Renewed st (voting m.election m.sender st)
    voted = record { number = refl; copies = λ b. le_refl _ }

pub cut_onward : (k : ℕ) (m : Message) (s : Server) → Onward s (cut_server k m s)
cut_onward k m s = renewed s (cut_renews k m s.stored) refl

-- ---- steps that end no leadership

pub record Moves (s : Server) (r : Reaction) : Type 0 where
  pub onward : Onward s r.server
  pub one : length r.answers ≤ 1

pub still : (s : Server) (ms : List Message) → Moves s (reaction s ms [])
still s ms = record { onward = onward_refl s; one = omega arith }

finish_moves : (b : ℕ) (r : Result) (s : Server) → Moves s (finish b r s)
unfolding finish answer_of
finish_moves b r s =
    record {
      onward = record { number = omega arith; role = λ e. omega arith; copies = λ k. le_refl _ };
      one = elim (call_at s.volatile b) as (λ c. length (answer_of r c) ≤ 1) [ none ↦ omega arith | some c ↦ omega arith ];
    }

module _ (n me b : ℕ) where
  -- a round's own share, and what follows where it closes at once
  open_moves : (purpose : Purpose) (request : Request) (next : Server → Reaction) → ((t : Server) → Moves t (next t)) → (s : Server) → Moves s (open_round n me b purpose request next s)
  unfolding open_round opening
  open_moves purpose request next f s =
      go _ _ (closes n (new_round n me b purpose s)) (renewed s (accepting_renews b s.stored.number me request s.stored) refl)
    where
      go : (t : Server) (ms : List Message) (now : Bool) → Onward s t → Moves s (elim now [ true ↦ after ms (next t) | false ↦ reaction t ms [] ])
      go t ms true on = record { onward = onward_trans on (f t).onward; one = (f t).one }
      go t ms false on = record { onward = on; one = omega arith }

  applying_moves : (x : Effect) (s : Server) → Moves s (applying n me b x s)
  unfolding applying
  applying_moves (answers r) s = finish_moves b r s
  applying_moves (writes t) s = open_moves own_write _ (finish b done) (finish_moves b done) s

  after_read_moves : (s : Server) → Moves s (after_read n me b s)
  unfolding after_read
  after_read_moves s =
      elim (call_at s.volatile b) as
      (λ c. Moves s (elim c [ none ↦ no_reaction s | some c ↦ applying n me b (effect c.words (copy_at s.stored b).table) s ]))
      [ none ↦ still s [] | some c ↦ applying_moves _ s ]

  checking_moves : (s : Server) → Moves s (checking n me b s)
  unfolding checking
  checking_moves s = open_moves check reading (after_read n me b) after_read_moves s

  recovering_moves : (t : List Entry) (s : Server) → Moves s (recovering n me b t s)
  unfolding recovering
  recovering_moves t s = open_moves recovery_write _ (checking n me b) checking_moves s

  start_read_moves : (s : Server) → Moves s (start_read n me b s)
  unfolding start_read
  start_read_moves s =
      elim (recovered s.stored.number (copy_at s.stored b)) as
      (λ t. Moves s (elim t [ true ↦ checking n me b s | false ↦ open_round n me b recovery_read reading (recovering n me b (copy_at s.stored b).table) s ])) [
        | true ↦ checking_moves s
        | false ↦ open_moves recovery_read reading (recovering n me b (copy_at s.stored b).table) (recovering_moves _) s
      ]

  start_call_moves : (words : Words) (s : Server) → Moves s (start_call n me b words s)
  start_call_moves words s = first_round n me b words s (Moves s) (λ t e made. applying_moves (writes t) s) (start_read_moves s)

  pub begin_call_moves : (i : ℕ) (words : Words) (s : Server) → Moves s (begin_call n me b i words s)
  unfolding begin_call
  begin_call_moves i words s =
      let w = s.volatile in
      let t : Server = record { stored = s.stored; volatile = record { role = w.role; votes = w.votes; last_round = w.last_round; rounds = w.rounds; calls = set w.calls b (some (record { number = i; words = words; rounds = 0; sent = false })) }; stopped = s.stopped } in
      let on : Onward s t = record { number = omega arith; role = λ e. omega arith; copies = λ k. le_refl _ } in
      let g = start_call_moves words t in
      record { onward = onward_trans on g.onward; one = g.one }

  pub closed_moves : (r : Round) (s : Server) → Moves s (closed n me b r s)
  unfolding closed
  closed_moves r s =
      elim r.purpose as
      (λ u. Moves s (elim u [ recovery_read ↦ recovering n me b r.best.table s | recovery_write ↦ checking n me b s | check ↦ after_read n me b s | own_write ↦ finish b done s ]))
      [ recovery_read ↦ recovering_moves _ s | recovery_write ↦ checking_moves s | check ↦ after_read_moves s | own_write ↦ finish_moves b done s ]

-- ---- steps after which the server may have ceased to lead: then they print the ends of its open calls

pub record Goes (s : Server) (r : Reaction) : Type 0 where
  pub onward : Onward s r.server
  pub answers : (length r.answers ≤ 1) ⊎ (r.answers ≡ endings s.volatile.calls)

pub going : {s : Server} {r : Reaction} → Moves s r → Goes s r
going h = record { onward = h.onward; answers = inl h.one }

last_stage : (r : Role) → stage r ≤ 2
last_stage candidate = omega arith
last_stage leading = omega arith
last_stage follower = omega arith

pub cease_goes : (s : Server) → Goes s (cease s)
unfolding cease Leader.ceased
cease_goes s =
    record {
      onward = record { number = omega arith; role = λ e. last_stage s.volatile.role; copies = λ k. le_refl _ };
      answers = inr refl;
    }

-- a server that comes back leads nothing
pub start_onward : (s : Server) → Onward s (restarted s)
unfolding Leader.forgotten Leader.ceased
start_onward s = record { number = omega arith; role = λ e. last_stage s.volatile.role; copies = λ k. le_refl _ }
