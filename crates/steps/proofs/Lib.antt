-- What the proofs of `steps` share.
pub mod Loops
pub mod Tables
