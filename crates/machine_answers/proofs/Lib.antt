-- What the proofs of `machine_answers` share.
pub mod Ended
