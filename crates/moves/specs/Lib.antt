-- What the contracts of `moves` cite.
pub mod Moves
pub mod Reactions
