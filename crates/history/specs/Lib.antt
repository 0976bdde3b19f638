pub mod Version
pub mod Members
pub mod History
pub mod Ordering
