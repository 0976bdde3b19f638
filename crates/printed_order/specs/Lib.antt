-- Demand 3, said of the bytes that are written.
pub mod Statement
