pub mod Splitting
pub mod Sameness
pub mod Numbers
pub mod Padding
pub mod Pairs
pub mod Forms
pub mod Keeping
