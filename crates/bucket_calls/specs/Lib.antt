-- What the calls on lent bytes answer.
pub mod Answers
