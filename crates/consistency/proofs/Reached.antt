-- The servers of the states that a script reaches, and what no line undoes.
use mathlib.Core.Path.{◌≡◌, refl, subst⁻¹}
use mathlib.Core.List.{List, [], ◌∷◌, ◌++◌}
use mathlib.Core.Bool.{true, false}
use mathlib.Core.Option.{Option, none, some}
use Prim.Native.Nat.{ℕ, zero, suc, ◌+◌}
use native.Mathlib.Omega.{arith}
use lib.ListN.{length, get_or, set, replicate}
use Rattle.model.specs.Measures.{max_election}
use Rattle.model.specs.Calls.{bucket_for}
use Rattle.model.specs.Cluster.{Copy, fresh_copy, copy_at, leading, Server, Message, Cluster, fresh_server, fresh_cluster}
use Rattle.model.specs.Leader.{handle}
use Rattle.model.specs.Lines.{Line, cluster, elect, call, deliver, copy, lose, timeout, stop, cut, start, State, LineResult, Work, server_at, message_at, drop_at, stopped_at, lost_message, delivered_to, delivery, work}
use Rattle.model.specs.Parse.{parse}
use Rattle.model.specs.Run.{step, state_after, state_after_up_to}
use Rattle.history.specs.Version.{◌≼◌}
use Rattle.history.proofs.VersionLaws.{le_refl}
use Rattle.limits.proofs.Refusals.{ComesOut, refused_by_lem, founded, took, comes_out}
use Rattle.consistency.proofs.Onward.{Onward, onward_refl, onward_trans, set_either, cut_onward, start_onward, begin_call_moves, cease_goes}
use Rattle.consistency.proofs.OnwardSteps.{elect_goes, handle_goes}

-- server p of the cluster that stands; where there is none a server that has done nothing
abbrev pub server_of : Option Cluster → ℕ → Server
server_of none p = fresh_server 0 0
server_of (some c) p = server_at c p

abbrev pub server_in : State → ℕ → Server
server_in s p = server_of s.cluster p

-- server p leads under number e, running or stopped
abbrev pub LeadsIn : State → ℕ → ℕ → Type 0
LeadsIn s p e = ((server_in s p).volatile.role ≡ leading) × ((server_in s p).stored.number ≡ e)

-- server p runs
abbrev pub RunsIn : State → ℕ → Type 0
RunsIn s p = (server_in s p).stopped ≡ false

-- ---- one line

module _ (c : Cluster) (p : ℕ) where
  -- only server s takes a step
  one_moves : (s : ℕ) (t : Server) → Onward (server_at c s) t → Onward (server_at c p) (get_or (set c.servers s t) p (fresh_server 0 0))
  one_moves s t h = set_either (Onward (server_at c p)) c.servers s p t (fresh_server 0 0) (onward_refl _) (λ e. rw e h)

  delivery_onward : (m : Message) (kept : List Message) (copied : ℕ) → Onward (server_at c p) (server_at (delivery c m kept copied).cluster p)
  unfolding delivery
  delivery_onward m kept copied =
      elim (stopped_at c m.receiver) as
      (λ t. let w : Work = elim t [ true ↦ lost_message c kept copied | false ↦ delivered_to c m kept copied (handle (length c.servers) m.receiver m (server_at c m.receiver)) ] in
      Onward (server_at c p) (server_at w.cluster p)) [
        | true ↦ onward_refl _
        | false ↦ one_moves m.receiver _ (handle_goes (length c.servers) m.receiver m (server_at c m.receiver)).onward
      ]

  work_onward : (l : Line) → Onward (server_at c p) (server_at (work c l).cluster p)
  unfolding work
  work_onward (cluster n b) = one_moves 0 _ (onward_refl _)
  work_onward (elect s) = one_moves s _ (elect_goes (length c.servers) s (server_at c s)).onward
  work_onward (call s w) = one_moves s _ (begin_call_moves (length c.servers) s (bucket_for c.buckets w) (c.calls + 1) w (server_at c s)).onward
  work_onward (deliver i) = delivery_onward (message_at c i) (drop_at i c.messages) 0
  work_onward (copy i) = delivery_onward (message_at c i) c.messages 1
  work_onward (lose i) = onward_refl _
  work_onward (timeout s b) = one_moves s _ (cease_goes (server_at c s)).onward
  work_onward (stop s) = one_moves s _ (record { number = omega arith; role = λ e. omega arith; copies = λ k. le_refl _ })
  work_onward (cut i k) = one_moves (message_at c i).receiver _ (cut_onward k (message_at c i) (server_at c (message_at c i).receiver))
  work_onward (start s) = one_moves s _ (start_onward (server_at c s))

all_fresh : {A : Type 0} (P : A → Type 0) (a d : A) (n k : ℕ) → P a → P d → P (get_or (replicate n a) k d)
all_fresh P a d zero k x y = y
all_fresh P a d (suc n) zero x y = x
all_fresh P a d (suc n) (suc k) x y = all_fresh P a d n k x y

-- the servers of a new cluster have done nothing
founded_onward : (n b p : ℕ) → Onward (fresh_server 0 0) (server_at (fresh_cluster n b) p)
unfolding fresh_server fresh_cluster
founded_onward n b p =
    all_fresh (Onward (fresh_server 0 0)) (fresh_server n b) (fresh_server 0 0) n p
    (record { number = omega arith; role = λ e. omega arith; copies = λ k. all_fresh (λ (x : Copy). (copy_at (fresh_server 0 0).stored k).version ≼ x.version) fresh_copy fresh_copy b k (le_refl _) (le_refl _) })
    (onward_refl _)

line_onward : (s : State) (o : Option Line) (x : LineResult) → ComesOut s o x → (p : ℕ) → Onward (server_in s p) (server_in x.state p)
line_onward s o x (refused_by_lem r low high) p = onward_refl _
line_onward s o x (founded n b i u v e) p = subst⁻¹ (λ k. Onward (server_of k p) (server_at (fresh_cluster n b) p)) e (founded_onward n b p)
line_onward s o x (took c l i e f room) p = subst⁻¹ (λ k. Onward (server_of k p) (server_at (work c l).cluster p)) e (work_onward c p l)

-- ---- lists of lines

pub lines_onward : (s : State) (ls : List (List ℕ)) (p : ℕ) → Onward (server_in s p) (server_in (state_after s ls) p)
unfolding state_after_up_to
lines_onward s [] p = onward_refl _
lines_onward s (l ∷ ls) p = onward_trans (line_onward s (parse l) (step s l) (comes_out max_election s l) p) (lines_onward (step s l).state ls p)

pub after_both : (s : State) (ls ms : List (List ℕ)) → state_after s (ls ++ ms) ≡ state_after (state_after s ls) ms
unfolding state_after_up_to
after_both s [] ms = refl
after_both s (l ∷ ls) ms = after_both (step s l).state ls ms
