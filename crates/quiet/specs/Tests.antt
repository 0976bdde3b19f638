-- The hypotheses of `Quiet` as tests that compute, in their order. Where every one says yes they hold (`is_quiet` in
-- proofs/Tested.antt).
use Rattle.std.specs.Prelude.{List, [], ◌∷◌, map, Bool, not, ℕ, ◌+◌, leb}
use Rattle.model.specs.Measures.{majority, max_accepted}
use Rattle.model.specs.Cluster.{Server, Cluster}
use Rattle.model.specs.Lines.{server_at, either, no_message, is_leading, present}
use Rattle.model.specs.Rows.{every}
use Rattle.quiet.specs.Statement.{servers_of, running, deliveries}

-- s has stopped, or has no vote above e
unfoldable pub votes_up_to : ℕ → Server → Bool
votes_up_to e s = either s.stopped (leb s.stored.vote e)

unfoldable pub none_open : Server → Bool
none_open s = every (map (λ o. not (present o)) s.volatile.calls)

unfoldable pub tests : Cluster → ℕ → List Bool
tests c p =
    is_leading (server_at c p).volatile.role ∷
    every (map (votes_up_to (server_at c p).stored.number) c.servers) ∷
    leb (majority (servers_of c)) (running c.servers) ∷
    no_message c 0 ∷
    every (map none_open c.servers) ∷
    leb (c.accepted + (deliveries (servers_of c) + 1)) max_accepted ∷
    []

-- opens them, for the files that compute with them; `computing` opens the rules that they use
unfoldable pub testing : Unit {0}
unfolding running every votes_up_to none_open tests
testing = tt
