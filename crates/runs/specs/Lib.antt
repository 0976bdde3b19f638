-- What the contracts of `runs` and of the machine cite.
pub mod Runs
pub mod Meaning
pub mod Carrying
