pub mod Printing
pub mod Counting
pub mod Texts
pub mod Room
