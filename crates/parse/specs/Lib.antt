pub mod Words
pub mod Digits
pub mod Kept
pub mod Meaning
