-- Laws that belong to no one function.
pub mod Lists
pub mod Shifts
pub mod Comparison
pub mod Changes
pub mod Views
pub mod Placing
pub mod Edits
