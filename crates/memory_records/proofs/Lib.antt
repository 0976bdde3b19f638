-- Lemmas of `memory_records`.
pub mod Texts
