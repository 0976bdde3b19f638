-- The calls of every bucket have one order.
use Prim.Native.Nat.{ℕ}
use Rattle.history.specs.Ordering.{Ordering}
use Rattle.history.proofs.Theorem.{one_order}
use Rattle.consistency.proofs.Majorities.{quorums}
use Rattle.consistency.proofs.Log.{Log}
use Rattle.consistency.proofs.Invariant.{LogOk}
use Rattle.consistency.proofs.OneBucket.{plain, history_of}
use Rattle.consistency.proofs.BucketFacts.{facts_of}

pub ordering_of : (n now taken : ℕ) {log : Log} → LogOk n now taken log → (b : ℕ) → Ordering plain (history_of log b).calls
ordering_of n now taken {log} ok b = one_order (quorums n) (history_of log b) (facts_of n now taken ok b)
