-- Why every line keeps it.
pub mod Lists
pub mod Refusals
pub mod Counting
pub mod Growing
pub mod Tables
pub mod Rules
pub mod Always
pub mod Starts
pub mod Printed
pub mod Prints
