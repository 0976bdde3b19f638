-- What the contracts of `steps` cite.
pub mod Stored
