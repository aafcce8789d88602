-- Laws of tests.
pub mod Tests
