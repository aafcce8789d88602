-- Laws of the code, for the crates above.
pub mod Polynomials
pub mod Editions
pub mod Lists
pub mod Horner
pub mod Blocks
pub mod Reading
