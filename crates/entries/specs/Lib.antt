-- Tables, and what decoded keys, values and tables stand for.
pub mod Entries
pub mod Decoded
pub mod Places
