-- Laws of the field, for the crates above.
pub mod Laws
pub mod Powers
pub mod Bits
