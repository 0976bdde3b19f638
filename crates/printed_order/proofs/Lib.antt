-- Why what is written is in one order.
pub mod Theorem
