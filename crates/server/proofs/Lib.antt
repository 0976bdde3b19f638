pub mod Counting
pub mod HeadLaws
pub mod WordLaws
