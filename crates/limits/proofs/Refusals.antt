-- Refused lines (RULES, Refusals 1 and 2): a refused line leaves cluster and tally as they
-- were, its number is between 1 and 12 or is 18, and among the conditions that bear on it the lowest that applies wins.
use mathlib.Core.Path.{◌≡◌, refl}
use mathlib.Core.List.{List, [], ◌∷◌}
use mathlib.Core.Bool.{Bool, true, false}
use mathlib.Core.Option.{Option, none, some}
use Prim.Native.Nat.{ℕ, ◌≤◌}
use native.Mathlib.Omega.{arith}
use lib.Dec.{leb}
use lib.ListN.{length}
use borrow.Author.Tests.{leb-true}
use Rattle.table.specs.Form.{within}
use Rattle.model.specs.Measures.{max_servers, max_buckets, max_messages, max_election}
use Rattle.model.specs.Cluster.{Cluster, fresh_cluster}
use Rattle.model.specs.Lines.{Line, cluster, elect, call, deliver, copy, lose, timeout, stop, cut, start, State, refusal, printed, Condition, first_of, conditions_up_to, work, tallied, LineResult, refuse, accept_line, in_cluster_up_to, create_cluster, perform_up_to}
use Rattle.model.specs.Parse.{parse}
use Rattle.model.specs.Run.{step_up_to}
use Rattle.limits.specs.Lists.{All, nil, cons}
use Rattle.limits.specs.Refusals.{RefusalNumber, Lowest}

-- ---- the lowest number wins

-- such numbers from `low` on, none below one that stands before it
abbrev Rises : ℕ → List Condition → Type 0
Rises low [] = Unit {0}
Rises low (x ∷ l) = (low ≤ x.number) × RefusalNumber x.number × Rises x.number l

conditions_rise : (top : ℕ) (c : Cluster) (l : Line) → Rises 2 (conditions_up_to top c l)
unfolding conditions_up_to
conditions_rise top c (cluster n b) = omega arith
conditions_rise top c (elect s) = omega arith
conditions_rise top c (call s w) = omega arith
conditions_rise top c (deliver i) = omega arith
conditions_rise top c (copy i) = omega arith
conditions_rise top c (lose i) = omega arith
conditions_rise top c (timeout s b) = omega arith
conditions_rise top c (stop s) = omega arith
conditions_rise top c (cut i k) = omega arith
conditions_rise top c (start s) = omega arith

rises_above : (r low : ℕ) (l : List Condition) → Rises low l → r ≤ low → All (λ x. x.applies ≡ true → r ≤ x.number) l
rises_above r low [] h k = nil
rises_above r low (x ∷ l) h k = cons {x = x} (λ a. omega arith) (rises_above r x.number l h.2 (omega arith))

first_of_lowest : (low : ℕ) (l : List Condition) (r : ℕ) → Rises low l → first_of l ≡ some r → Lowest low r l
unfolding first_of
first_of_lowest low [] r h e = let z : ◌≡◌ {A = ℕ} 0 1 = cc in absurd (omega arith)
first_of_lowest low (x ∷ l) r h e = go x.applies refl (first_of_lowest x.number l r h.2)
  where
    go : (a : Bool) → x.applies ≡ a → (first_of l ≡ some r → Lowest x.number r l) → Lowest low r (x ∷ l)
    go true p ih =
        let same : x.number ≡ r = cc (rw (first_of, p) at e) in
        record { from = omega arith; to = rw (← same) h.1; least = cons {x = x} (λ a. omega arith) (rises_above r x.number l h.2 (omega arith)) }
    go false p ih =
        let later = ih (rw (first_of, p) at e) in
        record { from = omega arith; to = later.to; least = cons {x = x} (λ a. let z : ◌≡◌ {A = ℕ} 0 1 = cc in absurd (omega arith)) later.least }

pub lowest_wins : (top : ℕ) (c : Cluster) (l : Line) (r : ℕ) → first_of (conditions_up_to top c l) ≡ some r →
    Lowest 2 r (conditions_up_to top c l)
lowest_wins top c l r = first_of_lowest 2 (conditions_up_to top c l) r (conditions_rise top c l)

-- ---- how a line, which reads as o, comes out: refused, as the cluster line, or taken by the cluster that stands

pub data ComesOutUpTo (top : ℕ) (s : State) (o : Option Line) : LineResult → Type 0 where
  refused_by_lem : (r : ℕ) → 1 ≤ r → RefusalNumber r → ComesOutUpTo top s o (refuse s r)
  founded : (n b : ℕ) → o ≡ some (cluster n b) → within max_servers n ≡ true → within max_buckets b ≡ true → s.cluster ≡ none →
      ComesOutUpTo top s o (record { state = record { cluster = some (fresh_cluster n b); tally = s.tally }; outcome = printed [] })
  took : (c : Cluster) (l : Line) → o ≡ some l → s.cluster ≡ some c → first_of (conditions_up_to top c l) ≡ none →
      length (work c l).cluster.messages ≤ max_messages →
      ComesOutUpTo top s o (record { state = record { cluster = some (work c l).cluster; tally = tallied s.tally (work c l) }; outcome = printed (work c l).answers })

abbrev pub ComesOut : State → Option Line → LineResult → Type 0
ComesOut = ComesOutUpTo max_election

creation_comes_out : (top : ℕ) (s : State) (l : Line) → s.cluster ≡ none → ComesOutUpTo top s (some l) (create_cluster s l)
unfolding create_cluster
creation_comes_out top s (cluster n b) e = go (within max_servers n) refl (within max_buckets b) refl
  where
    go : (p : Bool) → within max_servers n ≡ p → (q : Bool) → within max_buckets b ≡ q → ComesOutUpTo top s (some (cluster n b)) (create_cluster s (cluster n b))
    go false p q c = rw (create_cluster, p) (refused_by_lem 2 (omega arith) (omega arith))
    go true p false c = rw (create_cluster, p, c) (refused_by_lem 2 (omega arith) (omega arith))
    go true p true c = rw (create_cluster, p, c) (founded n b refl p c e)
creation_comes_out top s (elect x) e = refused_by_lem 2 (omega arith) (omega arith)
creation_comes_out top s (call x w) e = refused_by_lem 2 (omega arith) (omega arith)
creation_comes_out top s (deliver i) e = refused_by_lem 2 (omega arith) (omega arith)
creation_comes_out top s (copy i) e = refused_by_lem 2 (omega arith) (omega arith)
creation_comes_out top s (lose i) e = refused_by_lem 2 (omega arith) (omega arith)
creation_comes_out top s (timeout x b) e = refused_by_lem 2 (omega arith) (omega arith)
creation_comes_out top s (stop x) e = refused_by_lem 2 (omega arith) (omega arith)
creation_comes_out top s (cut i k) e = refused_by_lem 2 (omega arith) (omega arith)
creation_comes_out top s (start x) e = refused_by_lem 2 (omega arith) (omega arith)

taking_comes_out : (top : ℕ) (s : State) (c : Cluster) (l : Line) → s.cluster ≡ some c → first_of (conditions_up_to top c l) ≡ none →
    ComesOutUpTo top s (some l) (accept_line s (work c l))
unfolding accept_line
taking_comes_out top s c l e f = go (leb (length (work c l).cluster.messages) max_messages) refl
  where
    go : (p : Bool) → leb (length (work c l).cluster.messages) max_messages ≡ p → ComesOutUpTo top s (some l) (accept_line s (work c l))
    go true p = rw (accept_line, p) (took c l refl e f (leb-true _ _ p))
    go false p = rw (accept_line, p) (refused_by_lem 12 (omega arith) (omega arith))

in_cluster_comes_out : (top : ℕ) (s : State) (c : Cluster) (l : Line) → s.cluster ≡ some c →
    ComesOutUpTo top s (some l) (in_cluster_up_to top s c l)
unfolding in_cluster_up_to
in_cluster_comes_out top s c l e = go (first_of (conditions_up_to top c l)) refl
  where
    go : (o : Option ℕ) → first_of (conditions_up_to top c l) ≡ o → ComesOutUpTo top s (some l) (in_cluster_up_to top s c l)
    go none f = rw (in_cluster_up_to, f) (taking_comes_out top s c l e f)
    go (some r) f =
        let w = lowest_wins top c l r f in
        rw (in_cluster_up_to, f) (refused_by_lem r (omega arith) w.to)

-- as `perform_up_to` decides, with the cluster as a value of its own
perform_comes_out_at : (top : ℕ) (s : State) (l : Line) (o : Option Cluster) → s.cluster ≡ o →
    ComesOutUpTo top s (some l) (elim o [ none ↦ create_cluster s l | some c ↦ in_cluster_up_to top s c l ])
perform_comes_out_at top s l none e = creation_comes_out top s l e
perform_comes_out_at top s l (some c) e = in_cluster_comes_out top s c l e

pub perform_comes_out : (top : ℕ) (s : State) (l : Line) → ComesOutUpTo top s (some l) (perform_up_to top s l)
unfolding perform_up_to
perform_comes_out top s l = perform_comes_out_at top s l s.cluster refl

pub comes_out : (top : ℕ) (s : State) (l : List ℕ) → ComesOutUpTo top s (parse l) (step_up_to top s l)
unfolding step_up_to
comes_out top s l = go (parse l) refl
  where
    go : (o : Option Line) → parse l ≡ o → ComesOutUpTo top s o (step_up_to top s l)
    go none e = rw (step_up_to, e) (refused_by_lem 1 (omega arith) (omega arith))
    go (some x) e = rw (step_up_to, e) (perform_comes_out top s x)

-- ---- what a refusal leaves, and its number

refused_line : (top : ℕ) (s : State) (o : Option Line) (x : LineResult) (r : ℕ) → ComesOutUpTo top s o x → x.outcome ≡ refusal r →
    (x.state ≡ s) × (1 ≤ r) × RefusalNumber r
refused_line top s o x r (refused_by_lem q low high) e = let same : q ≡ r = cc in (refl, omega arith, rw (← same) high)
refused_line top s o x r (founded n b i p q f) e = let z : ◌≡◌ {A = ℕ} 0 1 = cc in absurd (omega arith)
refused_line top s o x r (took c l i f p q) e = let z : ◌≡◌ {A = ℕ} 0 1 = cc in absurd (omega arith)

pub refused_changes_nothing : (top : ℕ) (s : State) (l : List ℕ) (r : ℕ) → (step_up_to top s l).outcome ≡ refusal r → (step_up_to top s l).state ≡ s
refused_changes_nothing top s l r e = (refused_line top s (parse l) (step_up_to top s l) r (comes_out top s l) e).0

pub refusal_numbers : (top : ℕ) (s : State) (l : List ℕ) (r : ℕ) → (step_up_to top s l).outcome ≡ refusal r → (1 ≤ r) × RefusalNumber r
refusal_numbers top s l r e = let h = refused_line top s (parse l) (step_up_to top s l) r (comes_out top s l) e in (h.1, h.2)
