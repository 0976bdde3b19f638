-- What reading and writing lent bytes answer.
pub mod Answers
