-- What a cut and a start, as moves, mean in the definitions of crates/model.
pub mod Cutting
pub mod Starting
