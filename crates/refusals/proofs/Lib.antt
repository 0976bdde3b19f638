-- What the proofs of `refusals` share.
pub mod Sending
