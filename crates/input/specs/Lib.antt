-- An input in parts.
pub mod Reading
