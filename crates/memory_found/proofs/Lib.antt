-- Laws of items: written, read, and read back.
pub mod Forms
pub mod Items
pub mod Back
