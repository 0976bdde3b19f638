pub mod Views
pub mod Heads
