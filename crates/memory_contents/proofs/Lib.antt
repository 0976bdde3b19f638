-- The law of a table's bucket form among the contents.
pub mod Forms
