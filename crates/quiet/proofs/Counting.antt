-- Servers that run, and the marks of a round: where every running server acknowledged, a majority did.
use mathlib.Core.Path.{◌≡◌, refl, ap}
use mathlib.Core.List.{List, [], ◌∷◌}
use mathlib.Core.Bool.{Bool, true, false}
use Prim.Native.Nat.{ℕ, zero, suc, ◌≤◌, ◌<◌}
use native.Mathlib.Omega.{arith}
use lib.ListN.{length, get_or, set, replicate}
use Rattle.model.specs.Cluster.{Mark, silent, acknowledged, refused, Server}
use Rattle.model.specs.Leader.{acknowledgements, refusals}
use Rattle.quiet.specs.Statement.{running}

-- ---- who runs

pub running_set : (l : List Server) (q : ℕ) (s d : Server) → s.stopped ≡ (get_or l q d).stopped → running (set l q s) ≡ running l
unfolding running
running_set [] q s d e = refl
running_set (x ∷ l) zero s d e = ap (λ a. elim a as (λ _. ℕ) [ true ↦ running l | false ↦ suc (running l) ]) e
running_set (x ∷ l) (suc q) s d e = ap (λ k. elim x.stopped as (λ _. ℕ) [ true ↦ k | false ↦ suc k ]) (running_set l q s d e)

-- where every server that runs acknowledged, no more run than acknowledged
pub running_acknowledged : (l : List Server) (marks : List Mark) (d : Server) → length marks ≡ length l →
    ((q : ℕ) → q < length l → (get_or l q d).stopped ≡ false → get_or marks q refused ≡ acknowledged) → running l ≤ acknowledgements marks
unfolding running acknowledgements
running_acknowledged [] marks d e h = omega arith
running_acknowledged (x ∷ l) [] d e h = absurd (omega arith)
running_acknowledged (x ∷ l) (m ∷ marks) d e h =
    go x.stopped refl m refl (running_acknowledged l marks d (omega arith) (λ q k r. h (suc q) (omega arith) r))
  where
    go : (a : Bool) → x.stopped ≡ a → (y : Mark) → m ≡ y → running l ≤ acknowledgements marks →
        elim a as (λ _. ℕ) [ true ↦ running l | false ↦ suc (running l) ] ≤ acknowledgements (y ∷ marks)
    go true i silent j k = k
    go true i acknowledged j k = omega arith
    go true i refused j k = k
    go false i acknowledged j k = omega arith
    go false i silent j k = let o = h 0 (omega arith) i in let z : ◌≡◌ {A = ℕ} 0 1 = cc in absurd (omega arith)
    go false i refused j k = let o = h 0 (omega arith) i in let z : ◌≡◌ {A = ℕ} 0 1 = cc in absurd (omega arith)

-- ---- marks

-- where nobody refused, no mark says so
pub none_refused : (marks : List Mark) (q : ℕ) → refusals marks ≡ 0 → q < length marks → get_or marks q refused ≡ refused → ⊥
unfolding refusals
none_refused [] q e h r = omega arith
none_refused (silent ∷ l) zero e h r = let z : ◌≡◌ {A = ℕ} 0 1 = cc in omega arith
none_refused (acknowledged ∷ l) zero e h r = let z : ◌≡◌ {A = ℕ} 0 1 = cc in omega arith
none_refused (refused ∷ l) zero e h r = omega arith
none_refused (silent ∷ l) (suc q) e h r = none_refused l q e (omega arith) r
none_refused (acknowledged ∷ l) (suc q) e h r = none_refused l q e (omega arith) r
none_refused (refused ∷ l) (suc q) e h r = absurd (omega arith)

pub refusals_set : (marks : List Mark) (q : ℕ) → refusals marks ≡ 0 → refusals (set marks q acknowledged) ≡ 0
unfolding refusals
refusals_set [] q e = e
refusals_set (silent ∷ l) zero e = e
refusals_set (acknowledged ∷ l) zero e = e
refusals_set (refused ∷ l) zero e = absurd (omega arith)
refusals_set (silent ∷ l) (suc q) e = refusals_set l q e
refusals_set (acknowledged ∷ l) (suc q) e = refusals_set l q e
refusals_set (refused ∷ l) (suc q) e = absurd (omega arith)

pub refusals_silent : (n : ℕ) → refusals (replicate n silent) ≡ 0
unfolding refusals
refusals_silent zero = refl
refusals_silent (suc n) = refusals_silent n
