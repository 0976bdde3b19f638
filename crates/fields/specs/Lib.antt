pub mod Form
pub mod Rows
