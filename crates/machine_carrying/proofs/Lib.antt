-- What the proofs of `machine_carrying` share.
pub mod Parts
pub mod Zeros
