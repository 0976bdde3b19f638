-- What the contracts of `feed` cite.
pub mod Entry
pub mod Whole
pub mod Lent
