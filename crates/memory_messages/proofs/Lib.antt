-- The order as the end of the words, and numbers stored one by one.
pub mod Orders
