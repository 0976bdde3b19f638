-- The tests on decoded tables.
pub mod Tests
