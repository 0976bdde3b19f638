-- What the contracts of `flight` cite.
pub mod Flown
