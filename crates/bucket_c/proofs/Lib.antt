-- Laws that belong to no one function.
pub mod Windows
pub mod Exporting
