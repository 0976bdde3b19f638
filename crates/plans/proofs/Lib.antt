-- What the proofs of `plans` share.
pub mod Lent
pub mod Judging
