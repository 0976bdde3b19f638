pub mod Printed
pub mod Room
pub mod Figures
pub mod Answers
