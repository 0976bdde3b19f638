-- What the contracts of `lines` cite.
pub mod Sessions
pub mod Lines
pub mod Feeding
pub mod Lent
