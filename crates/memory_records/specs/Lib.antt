-- What the contracts of `memory_records` cite.
pub mod Stored
