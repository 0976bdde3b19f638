-- A server answers a request: what it stores may change, with its vote, and a leader whose vote rises above its number ceases.
use mathlib.Core.Path.{◌≡◌, ◌∙◌}
use mathlib.Core.List.{[], ◌∷◌}
use Prim.Native.Nat.{ℕ, ◌≤◌}
use native.Mathlib.Omega.{arith}
use lib.ListN.{length}
use Rattle.model.specs.Cluster.{Stored, Role, follower, candidate, leading, Call, Volatile, Server, Message}
use Rattle.model.specs.Leader.{with_stored, step_down, replying}
use Rattle.history.proofs.MemberLaws.{none_in, each_cons}
use Rattle.consistency.proofs.Log.{Log}
use Rattle.consistency.proofs.Claims.{Won, MessageOk}
use Rattle.consistency.proofs.Invariant.{LogOk, StoredOk, RoleOk, ServerOk}
use Rattle.consistency.proofs.Growth.{message_grows, Adds}
use Rattle.consistency.proofs.Buckets.{Untouched, call_grows}
use Rattle.consistency.proofs.Acts.{Kept}
use Rattle.consistency.proofs.Chaining.{sending, grown_before}
use Rattle.consistency.proofs.Ceasing.{OpenOk, Unsettled, as_unsettled, step_down_kept}

-- nothing was added but what a voter or a replica stores: votes, accepts and reports
pub record StoredOnly (a b : Log) : Type 0 where
  pub wins : b.wins ≡ a.wins
  pub writes : b.writes ≡ a.writes
  pub rounds : b.rounds ≡ a.rounds
  pub begins : b.begins ≡ a.begins
  pub ends : b.ends ≡ a.ends

module _ (n buckets p : ℕ) {a b : Log} (add : Adds p a b) (same : StoredOnly a b) where
  untouched : (i : ℕ) → Untouched a b i
  untouched i = record { unwritten = λ u w m. u w (rw same.writes at m); unended = λ u x m. u x (rw same.ends at m) }

  open_stays : {k : ℕ} {c : Call} → OpenOk a p k c → OpenOk b p k c
  open_stays {c = c} o =
      record { call = call_grows add.grows (untouched c.number) o.call; unsent = λ e. (untouched c.number).unwritten (o.unsent e) }

  -- a follower or a candidate stays one; where the vote is the number still, the premise rules a leader out
  role_after : (r : Role) (st t : Stored) (w : Volatile) → t.number ≡ st.number → t.vote ≡ t.number → (Won a st.number p → ⊥)
      → RoleOk n a p st w r → RoleOk n b p t w r
  role_after follower st t w e v f h = h
  role_after candidate st t w e v f h =
      (h.0, v, rw e h.2, λ x m i j. h.3 x (rw same.wins at m) (i ∙ e) j, λ q m. rw e (add.grows.votes _ (h.4 q m)))
  role_after leading st t w e v f h = absurd (f h.0)

  pub unsettled_after : (s : Server) → ServerOk n buckets a p s → (st : Stored) → st.number ≡ s.stored.number → length st.copies ≡ buckets
      → StoredOk b p st → (st.vote ≤ st.number → Won a s.stored.number p → ⊥) → Unsettled n buckets b p (with_stored s st)
  unsettled_after s h st e l k f =
      record {
        shape = record { copies = l; votes = h.shape.votes; rounds = h.shape.rounds; calls = h.shape.calls };
        stored = k;
        calls = λ i c j. open_stays ((as_unsettled h).calls i c j);
        role = λ v. role_after s.volatile.role s.stored st s.volatile e (omega (arith, k.number)) (f v) h.role;
        resting = (as_unsettled h).resting;
      }

  pub replied : {now taken : ℕ} → LogOk n now taken b → (s : Server) → Unsettled n buckets b p s → (m : Message) → MessageOk buckets b m
      → Kept n buckets now taken p a (replying (step_down s) m)
  replied {now} {taken} ok s u m good =
      let k = step_down_kept n buckets now taken p b ok s u in
      grown_before add same.begins same.ends (sending k (m ∷ []) (each_cons (message_grows k.adds.grows good) (λ x i. none_in i)))
