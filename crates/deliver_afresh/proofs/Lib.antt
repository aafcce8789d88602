-- Laws of the fresh root.
pub mod Hashing
pub mod Roots
