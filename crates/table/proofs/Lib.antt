-- Laws that belong to no one function.
pub mod Fitting
pub mod Changes
pub mod Reading
pub mod Parsing
pub mod Filling
pub mod Offsets
