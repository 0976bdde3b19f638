-- What the contracts of `memory` cite.
pub mod Rows
pub mod Layout
pub mod Lent
