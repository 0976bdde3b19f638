-- Laws of majorities, for every number of servers. By the first any two majorities share a server (crates/history/proofs/Quorum.antt).
use Prim.Native.Nat.{ℕ, ◌*◌, ◌≤◌, ◌<◌}
use native.Mathlib.Omega.{arith}
use Rattle.model.specs.Measures.{majority}

-- two majorities are together more than all servers
pub majority_half : (n : ℕ) → n < 2 * majority n
unfolding majority
majority_half n = omega arith

-- a majority is the least number with that
pub majority_least : (n m : ℕ) → n < 2 * m → majority n ≤ m
unfolding majority
majority_least n m h = omega arith

-- where there are servers, all of them together are a majority
pub majority_within : (n : ℕ) → 1 ≤ n → majority n ≤ n
majority_within n h = majority_least n n (omega arith)
