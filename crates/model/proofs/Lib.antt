-- Laws that belong to no one function.
pub mod Broadcasts
pub mod Elections
pub mod FirstRound
pub mod Majorities
pub mod Replicas
pub mod Stores
