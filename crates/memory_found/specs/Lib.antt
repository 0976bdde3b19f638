-- What the contracts of `memory_found` cite.
pub mod Found
pub mod Steps
