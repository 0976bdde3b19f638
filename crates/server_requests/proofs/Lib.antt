-- Laws that belong to no one function: the moves that an answer to a request, and what comes of a reply, stand for.
pub mod RequestMoves
pub mod ReplyOutcomes
