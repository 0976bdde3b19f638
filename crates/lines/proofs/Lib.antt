-- Laws that belong to no one function.
pub mod Holding
pub mod Finding
pub mod WholeLines
pub mod Told
pub mod Advancing
