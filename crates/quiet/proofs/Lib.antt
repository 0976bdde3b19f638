-- Why a quiet call takes no more deliveries, and why the figure is the least.
pub mod Counting
pub mod Weights
pub mod Messages
pub mod Rounds
pub mod Handing
pub mod Delivering
pub mod Lines
pub mod Theorem
pub mod Tested
pub mod Least
