-- What the proofs of `machine_steps` share.
pub mod Loops
