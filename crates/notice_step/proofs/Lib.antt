-- Laws of the definitions, for the crates above.
pub mod Taken
pub mod Leaves
pub mod Stays
pub mod Starts
pub mod Outcomes
pub mod Sorts
pub mod Writes
pub mod Settles
