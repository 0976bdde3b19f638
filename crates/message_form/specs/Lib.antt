-- Messages in flight as datagrams.
pub mod Statement
pub mod Example
