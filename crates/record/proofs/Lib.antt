-- Laws of the definitions, for the crates above.
pub mod KindByte
pub mod Facts
pub mod Writes
pub mod Round
pub mod PartLaws
pub mod Sections
pub mod Cuts
pub mod Reading
