-- What the contracts of `memory_messages` cite.
pub mod Appended
