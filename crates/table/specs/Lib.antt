-- The bucket form, and what its writer leaves.
pub mod Form
pub mod Steps
pub mod Example
