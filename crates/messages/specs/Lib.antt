-- What the contracts of `messages` cite.
pub mod Messages
