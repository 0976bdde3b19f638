-- What a part of a script leaves, array by array.
pub mod Each
