-- What the contracts of the machine cite.
pub mod Memory
pub mod Lent
pub mod Arrays
pub mod Changes
pub mod Queue
