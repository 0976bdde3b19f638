-- Laws of what a request and what ceasing to lead leave of a server.
use mathlib.Core.Path.{◌≡◌, refl}
use mathlib.Core.Bool.{Bool, true, false}
use Prim.Native.Nat.{ℕ}
use lib.Dec.{ltb}
use Rattle.model.specs.Cluster.{above, Stored, copy_at, Server}
use Rattle.model.specs.Replica.{voting, Request, reading, writing, with_copy, storing, accepting}
use Rattle.model.specs.Leader.{Reaction, no_reaction, cease, acts, step_down}

-- a request that is accepted leaves the server's own number, and its vote is the number of the request
pub accepting_keeps : (b e p : ℕ) (request : Request) (st : Stored) → ((accepting b e p request st).number ≡ st.number) × ((accepting b e p request st).vote ≡ e)
unfolding accepting storing
accepting_keeps b e p reading st = (refl, refl)
accepting_keeps b e p (writing c) st = go (above c.version (copy_at (voting e p st) b).version)
  where
    go : (new : Bool) →
        let x = elim new as (λ _. Stored) [ false ↦ voting e p st | true ↦ with_copy b c (voting e p st) ] in
        (x.number ≡ st.number) × (x.vote ≡ e)
    go true = (refl, refl)
    go false = (refl, refl)

-- what holds of a leader or candidate that ceases, and of a server that stays as it is, holds of what `step_down` makes of it
pub step_down_cases : (s : Server) (P : Reaction → Type 0) → (acts s.volatile.role ≡ true → ltb s.stored.number s.stored.vote ≡ true → P (cease s))
    → (ltb s.stored.number s.stored.vote ≡ false → P (no_reaction s)) → (acts s.volatile.role ≡ false → P (no_reaction s)) → P (step_down s)
unfolding step_down
step_down_cases s P ceases stays rests = go (acts s.volatile.role) refl (ltb s.stored.number s.stored.vote) refl
  where
    go : (acting : Bool) → acts s.volatile.role ≡ acting → (below : Bool) → ltb s.stored.number s.stored.vote ≡ below → P (step_down s)
    go false e below f = rw (step_down, e) (rests e)
    go true e true f = rw (step_down, e, f) (ceases e f)
    go true e false f = rw (step_down, e, f) (stays f)

-- ceasing to lead stores nothing, and stops nobody
pub step_down_keeps : (s : Server) → ((step_down s).server.stored ≡ s.stored) × ((step_down s).server.stopped ≡ s.stopped)
unfolding cease
step_down_keeps s =
    step_down_cases s (λ r. (r.server.stored ≡ s.stored) × (r.server.stopped ≡ s.stopped)) (λ e f. (refl, refl)) (λ f. (refl, refl)) (λ e. (refl, refl))
