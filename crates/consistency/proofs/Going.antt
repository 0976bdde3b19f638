-- A round is opened for a call, and where the sender alone is a majority the call's next step is made.
use mathlib.Core.Path.{◌≡◌, refl}
use mathlib.Core.List.{[]}
use mathlib.Core.Bool.{Bool, true, false}
use Prim.Native.Nat.{ℕ, ◌+◌}
use Rattle.model.specs.Cluster.{Purpose, Server}
use Rattle.model.specs.Replica.{Request, request_body}
use Rattle.model.specs.Leader.{Reaction, reaction, after, broadcast, closes, new_round, opening, open_round}
use Rattle.consistency.proofs.Log.{Log}
use Rattle.consistency.proofs.Invariant.{LogOk, ServerOk}
use Rattle.consistency.proofs.Acts.{Kept}
use Rattle.consistency.proofs.Chaining.{Sent, kept_after, kept_here}

pub open_kept : {n buckets now taken p : ℕ} (b : ℕ) {log next : Log} (s : Server) (u : Purpose) (q : Request) (onward : Server → Reaction)
    → Sent buckets p log next (broadcast n p b s.stored.number (s.volatile.last_round + 1) (request_body q))
    → LogOk n now taken next
    → ServerOk n buckets next p (opening n p b u q s)
    → (closes n (new_round n p b u s) ≡ true → Kept n buckets now taken p next (onward (opening n p b u q s)))
    → Kept n buckets now taken p log (open_round n p b u q onward s)
unfolding open_round
open_kept {n} {buckets} {now} {taken} {p} b {log} {next} s u q onward x ok rests goes = go (closes n (new_round n p b u s)) refl
  where
    go : (t : Bool) → closes n (new_round n p b u s) ≡ t
        → Kept n buckets now taken p log
        (elim t as (λ _. Reaction) [
          | true ↦ after (broadcast n p b s.stored.number (s.volatile.last_round + 1) (request_body q)) (onward (opening n p b u q s))
          | false ↦ reaction (opening n p b u q s) (broadcast n p b s.stored.number (s.volatile.last_round + 1) (request_body q)) []
        ])
    go true e = kept_after x (goes e)
    go false e = kept_here x ok rests
