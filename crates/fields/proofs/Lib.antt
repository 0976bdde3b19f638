-- Laws that belong to no one function.
pub mod Rules
pub mod Parsing
pub mod Numbers
pub mod OneForm
