-- A server ceases to lead: each of its open calls ends, as `unknown` if its own write was sent, as `notdone` if not.
use mathlib.Core.Path.{◌≡◌, refl, sym, ◌∙◌, ap}
use mathlib.Core.Logic.{inl, inr}
use mathlib.Core.List.Memᴰ
use mathlib.Core.List.{List, [], ◌∷◌, ◌++◌}
use mathlib.Core.Bool.{Bool, true, false}
use mathlib.Core.Option.{Option, none, some}
use Prim.Native.Nat.{ℕ, suc, ◌+◌, ◌≤◌}
use native.Mathlib.Omega.{arith}
use lib.ListN.{get_or, length-map, get_or-map}
use borrow.Author.Tests.{ltb-false}
use Rattle.model.specs.Calls.{notdone, unknown}
use Rattle.model.specs.Cluster.{Stored, copy_at, Role, follower, candidate, leading, Purpose, recovery_read, recovery_write, check, own_write, Round, Call, Volatile, round_at, call_at, Copy, Version, Server}
use Rattle.model.specs.Leader.{no_reaction, ended, endings, ceased, cease, acts, step_down}
use Rattle.model.proofs.Replicas.{step_down_cases}
use Rattle.history.specs.Members.{◌∈◌}
use Rattle.history.proofs.MemberLaws.{none_in}
use Rattle.consistency.proofs.Log.{Ended, Log, Grows, ◌⊆◌}
use Rattle.consistency.proofs.Invariant.{Unwritten, LogOk, EndOk, undone, unsure, StoredOk, CallOk, PhaseOk, BucketOk, Idle, RoleOk, Shape, ServerOk}
use Rattle.consistency.proofs.Growth.{won_grows, holds_grows, Adds}
use Rattle.consistency.proofs.Acts.{ends_of, Kept}
use Rattle.consistency.proofs.Extend.{ended_added}
use Rattle.consistency.proofs.Chaining.{unmoved}

-- ---- open calls

-- a call that is open at p on bucket b, and has no own write unless it was sent
pub record OpenOk (log : Log) (p b : ℕ) (c : Call) : Type 0 where
  pub call : CallOk log p b c
  pub unsent : c.sent ≡ false → Unwritten log c.number

-- what holds of a server once its vote may have risen above its number: all but the role of a leader or candidate, which the next
-- step settles
pub record Unsettled (n buckets : ℕ) (log : Log) (p : ℕ) (s : Server) : Type 0 where
  pub shape : Shape n buckets s
  pub stored : StoredOk log p s.stored
  pub calls : (b : ℕ) (c : Call) → call_at s.volatile b ≡ some c → OpenOk log p b c
  pub role : s.stored.vote ≤ s.stored.number → RoleOk n log p s.stored s.volatile s.volatile.role
  pub resting : acts s.volatile.role ≡ false → Idle s.volatile

module _ (n : ℕ) (log : Log) (p : ℕ) where
  unsent_phase : (e b : ℕ) (x : Version) (copy : Copy) (r : Round) (c : Call) (u : Purpose) → PhaseOk n log e b x copy r c u → c.sent ≡ false → Unwritten log c.number
  unsent_phase e b x copy r c recovery_read h i = h.2
  unsent_phase e b x copy r c recovery_write h i = h.3
  unsent_phase e b x copy r c check h i = h.3
  unsent_phase e b x copy r c own_write h i = let z : ◌≡◌ {A = ℕ} 0 1 = cc h.2 in absurd (omega arith)

  open_bucket : (e b : ℕ) (copy : Copy) (r : Option Round) (c : Call) → BucketOk n log p e b copy r (some c) → OpenOk log p b c
  open_bucket e b copy none c h = absurd h
  open_bucket e b copy (some r) c h = record { call = h.call; unsent = unsent_phase e b h.at copy r c r.purpose h.phase }

  idle_open : (w : Volatile) → Idle w → (b : ℕ) (c : Call) → call_at w b ≡ some c → OpenOk log p b c
  idle_open w h b c e = let z : ◌≡◌ {A = ℕ} 0 1 = cc (h b).1 in absurd (omega arith)

  role_open : (st : Stored) (w : Volatile) (r : Role) → RoleOk n log p st w r → (b : ℕ) (c : Call) → call_at w b ≡ some c → OpenOk log p b c
  role_open st w follower h b c e = idle_open w h b c e
  role_open st w candidate h b c e = idle_open w h.0 b c e
  role_open st w leading h b c e = open_bucket st.number b (copy_at st b) (round_at w b) c (rw e at (h.4 b))

  -- a follower is idle, whatever its vote
  idle_unless_acting : (st : Stored) (w : Volatile) (r : Role) → RoleOk n log p st w r → acts r ≡ false → Idle w
  unfolding acts
  idle_unless_acting st w follower h e = h
  idle_unless_acting st w candidate h e = h.0
  idle_unless_acting st w leading h e = let z : ◌≡◌ {A = ℕ} 0 1 = cc in absurd (omega arith)

  role_of_the_idle : (st : Stored) (w : Volatile) (r : Role) → Idle w → acts r ≡ false → RoleOk n log p st w r
  unfolding acts
  role_of_the_idle st w follower h e = h
  role_of_the_idle st w candidate h e = let z : ◌≡◌ {A = ℕ} 0 1 = cc in absurd (omega arith)
  role_of_the_idle st w leading h e = let z : ◌≡◌ {A = ℕ} 0 1 = cc in absurd (omega arith)

-- a server that agrees with the log, seen so
pub as_unsettled : {n buckets : ℕ} {log : Log} {p : ℕ} {s : Server} → ServerOk n buckets log p s → Unsettled n buckets log p s
as_unsettled {n} {log = log} {p} {s} h =
    record {
      shape = h.shape;
      stored = h.stored;
      calls = role_open n log p s.stored s.volatile s.volatile.role h.role;
      role = λ l. h.role;
      resting = idle_unless_acting n log p s.stored s.volatile s.volatile.role h.role;
    }

-- ---- the log with the ends of a list of calls

abbrev add_ends : List Ended → Log → Log
add_ends xs l = record { votes = l.votes; wins = l.wins; writes = l.writes; accepts = l.accepts; reports = l.reports; rounds = l.rounds; checks = l.checks; begins = l.begins; ends = xs ++ l.ends }

-- the calls of l, the first of which stands at bucket b, are open
abbrev AllOpen : Log → ℕ → ℕ → List (Option Call) → Type 0
AllOpen log p b l = (i : ℕ) (c : Call) → get_or l i none ≡ some c → OpenOk log p (b + i) c

all_open_tail : (log : Log) (p b : ℕ) (c : Option Call) (l : List (Option Call)) → AllOpen log p b (c ∷ l) → AllOpen log p (suc b) l
all_open_tail log p b k l h i c e = let z : suc b + i ≡ b + suc i = omega arith in rw z (h (suc i) c e)

-- an end in the list of ends is that of one of the calls
ends_of_calls : (now : ℕ) (l : List (Option Call)) (x : Ended) → x ∈ ends_of now (endings l) → (i : ℕ) × (c : Call) × (get_or l i none ≡ some c) × (x.number ≡ c.number)
unfolding endings ended
ends_of_calls now [] x m = none_in m
ends_of_calls now (none ∷ l) x m = let h = ends_of_calls now l x m in (suc h.0, h.1, h.2, h.3)
ends_of_calls now (some c ∷ l) x (Memᴰ.head e) = (0, c, refl, ap (λ y. y.number) e)
ends_of_calls now (some c ∷ l) x (Memᴰ.tail m) = let h = ends_of_calls now l x m in (suc h.0, h.1, h.2, h.3)

-- two calls of one number that are open at p are open on one bucket
pub one_bucket : {n now taken : ℕ} {log : Log} → LogOk n now taken log → {p b d : ℕ} {c k : Call} → OpenOk log p b c → OpenOk log p d k → c.number ≡ k.number → b ≡ d
one_bucket ok x y e = ap (λ z. z.bucket) (ok.calls.begun_once _ _ x.call.begun y.call.begun e)

end_ok : (n now : ℕ) (log : Log) (c : Call) → (c.sent ≡ false → Unwritten log c.number) → EndOk n log (record { number = c.number; result = (ended c).result; line = now })
unfolding ended
end_ok n now log c h = go c.sent refl
  where
    go : (t : Bool) → c.sent ≡ t → EndOk n log (record { number = c.number; result = elim t [ true ↦ unknown | false ↦ notdone ]; line = now })
    go true e = unsure refl
    go false e = undone refl (h e)

module _ (n now taken p : ℕ) where
  all_ended : (log : Log) → LogOk n now taken log → (b : ℕ) (l : List (Option Call)) → AllOpen log p b l → LogOk n now taken (add_ends (ends_of now (endings l)) log)
  unfolding endings ended
  all_ended log ok b [] h = ok
  all_ended log ok b (none ∷ l) h = all_ended log ok (suc b) l (all_open_tail log p b none l h)
  all_ended log ok b (some c ∷ l) h =
      let rest = all_open_tail log p b (some c) l h in
      let ih = all_ended log ok (suc b) l rest in
      let o = h 0 c refl in
      ended_added ih _ refl
      (λ x m e. elim (Memᴰ.append_cases (ends_of now (endings l)) m) [
        | inl k ↦
            let t = ends_of_calls now l x k in
            omega (arith, one_bucket ok o (rest t.0 t.1 t.2) (sym e ∙ t.3))
        | inr k ↦ o.call.unended x k e
      ])
      _ o.call.begun refl (end_ok n now _ c o.unsent)

-- ---- ceasing

-- what a server stores agrees with a log that got no votes, wins, accepts or reports
pub stored_grows : {a b : Log} {p : ℕ} {st : Stored} → Grows a b → b.votes ⊆ a.votes → b.wins ⊆ a.wins → b.accepts ⊆ a.accepts → b.reports ⊆ a.reports → StoredOk a p st → StoredOk b p st
stored_grows g v w k r h =
    record {
      number = h.number;
      votes = λ x m. h.votes x (v x m);
      voted = λ l. elim (h.voted l) [ inl x ↦ inl (g.votes _ x) | inr x ↦ inr (won_grows g x) ];
      wins = λ x m. h.wins x (w x m);
      copies = λ b. (holds_grows g (h.copies b).0, (h.copies b).1);
      accepts = λ x m. h.accepts x (k x m);
      reports = λ x m. h.reports x (r x m);
    }

pub ceased_idle : (w : Volatile) → Idle (ceased w)
unfolding ceased
ceased_idle w b = (get_or-map (λ x. none) w.rounds b none, get_or-map (λ x. none) w.calls b none)

module _ (n buckets now taken p : ℕ) (log : Log) (ok : LogOk n now taken log) (s : Server) (agrees : Unsettled n buckets log p s) where
  ends_added : Adds p log (add_ends (ends_of now (endings s.volatile.calls)) log)
  ends_added =
      record {
        grows = record {
          votes = λ x m. m;
          wins = λ x m. m;
          writes = λ x m. m;
          accepts = λ x m. m;
          reports = λ x m. m;
          rounds = λ x m. m;
          checks = λ x m. m;
          begins = λ x m. m;
          ends = λ x m. Memᴰ.append_right (ends_of now (endings s.volatile.calls)) m;
        };
        votes = λ x m. inl m;
        wins = λ x m. inl m;
        writes = λ x m. inl m;
        accepts = λ x m. inl m;
        reports = λ x m. inl m;
        rounds = λ x m. inl m;
        ends = λ x m. elim (Memᴰ.append_cases (ends_of now (endings s.volatile.calls)) m) [
          | inl k ↦
              let t = ends_of_calls now s.volatile.calls x k in
              inr (_, (agrees.calls t.0 t.1 t.2).call.begun, sym t.3, refl)
          | inr k ↦ inl k
        ];
      }

  pub cease_kept : Kept n buckets now taken p log (cease s)
  unfolding cease ceased
  cease_kept =
      let calls = s.volatile.calls in
      record {
        next = add_ends (ends_of now (endings calls)) log;
        adds = ends_added;
        facts = all_ended n now taken p log ok 0 calls (λ i c e. let z : 0 + i ≡ i = omega arith in rw z (agrees.calls i c e));
        server = record {
          shape = record {
            copies = agrees.shape.copies;
            votes = simp length-map agrees.shape.votes;
            rounds = simp length-map agrees.shape.rounds;
            calls = simp length-map agrees.shape.calls;
          };
          stored = stored_grows ends_added.grows (λ x m. m) (λ x m. m) (λ x m. m) (λ x m. m) agrees.stored;
          role = ceased_idle s.volatile;
        };
        sends = λ m k. none_in k;
        begins = refl;
        ends = λ x. (λ m. m, λ m. m);
      }

  -- a leader or candidate whose vote rose above its number ceases; any other server is as it was
  pub step_down_kept : Kept n buckets now taken p log (step_down s)
  step_down_kept =
      step_down_cases s (Kept n buckets now taken p log) (λ e f. cease_kept) (λ f. stays (agrees.role (ltb-false _ _ f)))
      (λ e. stays (role_of_the_idle n log p s.stored s.volatile s.volatile.role (agrees.resting e) e))
    where
      stays : RoleOk n log p s.stored s.volatile s.volatile.role → Kept n buckets now taken p log (no_reaction s)
      stays h = unmoved ok (record { shape = agrees.shape; stored = agrees.stored; role = h }) [] (λ m k. none_in k)
