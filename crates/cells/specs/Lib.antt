pub mod Cells
pub mod Moves
