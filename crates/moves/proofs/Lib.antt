-- Laws that belong to no one function: what each move stands for in the definitions of crates/model.
pub mod Ceasing
pub mod Opening
pub mod CallMoves
pub mod Needed
pub mod ReplyMoves
pub mod VoterMoves
pub mod LineMoves
pub mod Handled
