-- What the log says of the servers of the states that a script reaches.
use mathlib.Core.Path.{◌≡◌, refl, ap, subst}
use mathlib.Core.List.{List}
use mathlib.Core.Bool.{false}
use mathlib.Core.Option.{Option, none, some}
use Prim.Native.Nat.{ℕ, ◌≤◌, ◌<◌}
use native.Mathlib.Omega.{arith}
use native.Mathlib.Decide.{dec_lt}
use lib.ListN.{length, get_or-eq_default}
use Rattle.model.specs.Cluster.{copy_at, Role, follower, leading, Call, call_at, Cluster, fresh_server}
use Rattle.model.specs.Lines.{State, initial_state, server_at}
use Rattle.model.specs.Run.{state_after}
use Rattle.consistency.specs.Statement.{Begin, End, begins, ends}
use Rattle.consistency.proofs.Log.{Log}
use Rattle.consistency.proofs.Claims.{Won, Holds}
use Rattle.consistency.proofs.Claims
use Rattle.consistency.proofs.Invariant.{CallOk, RoleOk}
use Rattle.consistency.proofs.Reached.{server_of}
use Rattle.consistency.proofs.Runs.{RunOk, Leaves, run_goes, script_leaves}

no_leader : {r : Role} → r ≡ follower → r ≡ leading → {P : Type 0} → P
no_leader e f = let z : ◌≡◌ {A = ℕ} 0 1 = cc in absurd (omega arith)

beyond : (c : Cluster) (p : ℕ) → length c.servers ≤ p → server_at c p ≡ fresh_server 0 0
beyond c p h = get_or-eq_default c.servers (fresh_server 0 0) h

-- a leader won its election, and while it runs its vote is its number
pub leader_facts : (now count b : ℕ) (o : Option Cluster) (log : Log) → RunOk now o count b log → (p : ℕ) → (server_of o p).volatile.role ≡ leading
    → Won log (server_of o p).stored.number p × ((server_of o p).stopped ≡ false → (server_of o p).stored.vote ≡ (server_of o p).stored.number)
unfolding fresh_server
leader_facts now count b none log h p e = no_leader refl e
leader_facts now count b (some c) log h p e = go (dec_lt p (length c.servers))
  where
    go : Dec (p < length c.servers) → Won log (server_at c p).stored.number p × ((server_at c p).stopped ≡ false → (server_at c p).stored.vote ≡ (server_at c p).stored.number)
    go (yes l) =
        let s = h.0.servers p l in
        (s.won e, λ f. (subst (λ r. RoleOk (length c.servers) log p (server_at c p).stored (server_at c p).volatile r) e (s.role f)).1)
    go (no l) = no_leader (ap (λ s. s.volatile.role) (beyond c p (omega arith))) e

-- a number is never above its server's vote
pub number_voted : (now count b : ℕ) (o : Option Cluster) (log : Log) → RunOk now o count b log → (p : ℕ) → (server_of o p).stored.number ≤ (server_of o p).stored.vote
unfolding fresh_server
number_voted now count b none log h p = omega arith
number_voted now count b (some c) log h p = go (dec_lt p (length c.servers))
  where
    go : Dec (p < length c.servers) → (server_at c p).stored.number ≤ (server_at c p).stored.vote
    go (yes l) = (h.0.servers p l).stored.number
    go (no l) = rw (beyond c p (omega arith)) (omega arith)

-- what is stored is what the log says that was written
pub copy_held : (now count b : ℕ) (o : Option Cluster) (log : Log) → RunOk now o count b log → (p k : ℕ)
    → Holds log k (copy_at (server_of o p).stored k).version (copy_at (server_of o p).stored k).table
unfolding fresh_server
copy_held now count b none log h p k = Claims.Holds.first refl refl
copy_held now count b (some c) log h p k = go (dec_lt p (length c.servers))
  where
    go : Dec (p < length c.servers) → Holds log k (copy_at (server_at c p).stored k).version (copy_at (server_at c p).stored k).table
    go (yes l) = ((h.0.servers p l).stored.copies k).0
    go (no l) = rw (beyond c p (omega arith)) (Claims.Holds.first refl refl)

-- a call that is open at a server, running or stopped, was taken there and has not ended
pub open_call : (now count b : ℕ) (o : Option Cluster) (log : Log) → RunOk now o count b log → (p k : ℕ) (c : Call) → call_at (server_of o p).volatile k ≡ some c → CallOk log p k c
unfolding fresh_server
open_call now count b none log h p k c e = let z : ◌≡◌ {A = ℕ} 0 1 = cc in absurd (omega arith)
open_call now count b (some d) log h p k c e = go (dec_lt p (length d.servers))
  where
    go : Dec (p < length d.servers) → CallOk log p k c
    go (yes l) = (h.0.servers p l).calls k c e
    go (no l) = let z : ◌≡◌ {A = ℕ} 0 1 = cc (ap (λ s. call_at s.volatile k) (beyond d p (omega arith))) in absurd (omega arith)

abbrev pub reached : List (List ℕ) → State
reached ls = state_after initial_state ls

-- the log of a longer script has what that of the shorter one has
pub goes_on : (ls ms : List (List ℕ)) → (bs : List Begin) × (es : List End) × Leaves (script_leaves ls).log (script_leaves ls).now (reached ls) ms bs es
goes_on ls ms =
    let h = script_leaves ls in
    (_, _, run_goes ms h.now h.count h.buckets (reached ls) h.log (begins ls) (ends ls) h.measured h.agrees h.same)
