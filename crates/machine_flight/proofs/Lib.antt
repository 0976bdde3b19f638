-- What the proofs of `machine_flight` share.
pub mod Sends
