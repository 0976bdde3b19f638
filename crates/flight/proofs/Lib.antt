-- What the proofs of `flight` share.
pub mod Sends
