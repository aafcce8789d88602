-- Laws of the definitions, for the crates above.
pub mod Tallies
pub mod Facts
pub mod Flags
pub mod Writes
pub mod Masks
pub mod Views
pub mod First
