-- What the contracts of `machine_answers` cite.
pub mod Answers
