-- Laws that belong to no one function.
pub mod Keys
pub mod Room
pub mod Answering
pub mod Outcomes
pub mod Answered
