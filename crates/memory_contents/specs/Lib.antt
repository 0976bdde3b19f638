-- What the contracts of `memory_contents` cite.
pub mod Copied
pub mod Tables
