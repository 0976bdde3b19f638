-- What the proofs of `progress` share.
pub mod Feeds
