-- How long a quiet call takes: the claim, and short scripts.
pub mod Statement
pub mod Tests
pub mod Example
