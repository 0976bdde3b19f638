-- The messages of a broadcast: one from the sender to each other server.
use mathlib.Core.Path.{sym}
use mathlib.Core.Logic.{◌≢◌}
use Prim.Native.Nat.{ℕ}
use Rattle.model.specs.Cluster.{Body, Message}
use Rattle.model.specs.Leader.{broadcast}
use Rattle.limits.proofs.Lists.{all_in}
use Rattle.limits.proofs.Rules.{all_broadcast}
use Rattle.history.specs.Members.{◌∈◌}

-- what holds of a message to each server but the sender holds of every message of the broadcast
pub each_of_broadcast : (P : Message → Type 0) (n p b e k : ℕ) (body : Body)
    → ((q : ℕ) → q ≢ p → P (record { sender = p; receiver = q; bucket = b; election = e; round = k; body = body }))
    → (m : Message) → m ∈ broadcast n p b e k body → P m
each_of_broadcast P n p b e k body h m i = all_in {P = P} i (all_broadcast {P = P} n p b e k body (λ q there apart. h q (λ x. apart (sym x))))
