-- What the contracts of `output_found` cite.
pub mod Answers
