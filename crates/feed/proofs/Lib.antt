-- Laws that belong to no one function.
pub mod Feeding
pub mod Entering
pub mod Starting
pub mod Whole
