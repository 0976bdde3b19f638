-- What the contracts of `machine` cite.
pub mod Steps
pub mod Meaning
pub mod Lent
