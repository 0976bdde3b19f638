-- What the proofs of `answers` share.
pub mod Ended
