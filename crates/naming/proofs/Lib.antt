-- Laws of the definitions, for the crates above.
pub mod Values
pub mod Sized
pub mod Runs
