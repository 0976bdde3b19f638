-- What the contracts of `hash` cite.
pub mod Fnv
