-- Laws that belong to no one function: of words in rows, of parts and blocks, of the records, and of the words of calls.
pub mod Rows
pub mod Parts
pub mod Records
pub mod Texts
