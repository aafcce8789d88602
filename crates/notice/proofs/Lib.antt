-- Laws of the definitions, for the crates above.
pub mod Facts
pub mod Round
pub mod Cuts
pub mod Kept
pub mod Sounds
pub mod Reading
