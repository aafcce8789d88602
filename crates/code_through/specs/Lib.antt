-- What the contracts of `code_through` cite, and the crates above it.
pub mod Rebuild
pub mod Through
pub mod Fits
pub mod Sums
