pub mod Rounds
pub mod Kinds
