-- What the proofs of `open_calls` share.
pub mod CallLaws
