-- Laws that belong to no one function: of the servers that the memory stands for, of the messages in flight, and of the answers.
pub mod Each
pub mod Seen
pub mod Whole
pub mod Contents
pub mod Slots
pub mod Servers
pub mod Words
pub mod Queue
pub mod Sends
pub mod Answers
pub mod Lent
