-- What the contracts of `code_sum` cite, and the crates above it.
pub mod Sums
pub mod Blocks
