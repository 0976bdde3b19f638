-- Starts (RULES, Restarts 4), after any lines of a script: beside what is stored, a server that comes back has what a fresh server
-- of its cluster has. So it leads nothing, its rounds are numbered from 1 again, and its calls are gone.
use mathlib.Core.Path.{◌≡◌, sym, ◌∙◌, ap, subst}
use mathlib.Core.List.{List}
use mathlib.Core.Bool.{false}
use mathlib.Core.Option.{some}
use Prim.Native.Nat.{ℕ, ◌<◌}
use lib.ListN.{length}
use Rattle.model.specs.Measures.{max_election}
use Rattle.model.specs.Cluster.{Cluster, fresh_server}
use Rattle.model.specs.Lines.{Tally, initial_state, server_at, restarted}
use Rattle.model.specs.Run.{state_after}
use Rattle.model.proofs.Stores.{forgotten_is_fresh}
use Rattle.limits.specs.Stands.{Stands, Measured}
use Rattle.limits.specs.Starts.{fresh_but}
use Rattle.limits.proofs.Lists.{all_at}
use Rattle.limits.proofs.Always.{within_always}

stands_restarted : (c : Cluster) (t : Tally) → Stands c t → (s : ℕ) → s < length c.servers → restarted (server_at c s) ≡ fresh_but c (server_at c s)
stands_restarted c t h s there =
    let w = h.within in
    let frame = (all_at s (fresh_server 0 0) there w.servers).frame in
    ap (λ v. record { stored = (server_at c s).stored; volatile = v; stopped = false })
    (forgotten_is_fresh (length c.servers) c.buckets (server_at c s).volatile
    (frame.votes ∙ sym w.size) (frame.rounds ∙ sym w.buckets) (frame.calls ∙ sym w.buckets))

pub restarted_like_fresh : (ls : List (List ℕ)) (c : Cluster) → (state_after initial_state ls).cluster ≡ some c → (s : ℕ) → s < length c.servers
    → restarted (server_at c s) ≡ fresh_but c (server_at c s)
restarted_like_fresh ls c e s there =
    let t = (state_after initial_state ls).tally in
    stands_restarted c t (subst (λ o. Measured o t) e (within_always max_election ls)) s there
