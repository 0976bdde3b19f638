-- Laws of the texts of what was found, and of the room that they take.
pub mod Texts
